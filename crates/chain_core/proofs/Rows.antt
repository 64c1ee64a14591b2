-- The answer of a hook is the test of its rows.
use Rattle.std.proofs.Common.{◌≡◌, ℕ, Bool, List, refl}
use Rattle.std.proofs.lemmas.Bool.Decides.{Decides-eqb, Decides-and, Decides-like}
use Rattle.std.proofs.lemmas.List.Folds.{Any-from_list_any, list_any-from_Any}
use Rattle.std.proofs.lemmas.Slice.Eq.{slice_eq-Decides}
use Rattle.std.specs.Bool.{Decides, one_answer}
use Rattle.std.specs.List.{list_any}
use Rattle.std.specs.Prelude.{IsTrue, Any, ◌↔◌}
use Rattle.board_core.specs.Hook.{IsRowOf}
use Rattle.board_core.specs.declared.hook_row.HookRow.{HookRow}
use Rattle.key_core.specs.Parts.{Key}
use Rattle.chain_core.specs.Hashing.{message_digest}
use Rattle.chain_core.specs.Accepted.{is_row_of, is_enrolled}

is_row_of-Decides : (number : ℕ) (key digest signature : List ℕ) (row : HookRow)
    → Decides (is_row_of number key digest signature row) (IsRowOf number key digest signature row)
is_row_of-Decides number key digest signature row =
    Decides-like (is_row_of number key digest signature row)
    (λ same. record { algorithm = same.0; key = same.1.0; digest_len = same.1.1.0; digest = same.1.1.1.0; signature = same.1.1.1.1 })
    (λ same. (same.algorithm, (same.key, (same.digest_len, (same.digest, same.signature)))))
    (Decides-and _ _ (Decides-eqb _ _)
    (Decides-and _ _ (slice_eq-Decides Decides-eqb _ _ _ refl)
    (Decides-and _ _ (Decides-eqb _ _)
    (Decides-and _ _ (slice_eq-Decides Decides-eqb _ _ _ refl)
    (slice_eq-Decides Decides-eqb _ _ _ refl)))))

-- some element is so exactly where its test finds one
pub list_any-Decides : {X : Type 0} (p : X → Bool) (P : X → Type 0) → ((x : X) → Decides (p x) (P x)) → (xs : List X)
    → Decides (list_any p xs) (Any P xs)
list_any-Decides p P each xs = (
  λ yes. let found = Any-from_list_any p xs yes in (found.0, found.1, found.2, found.3, (each found.1).0 found.4),
  λ found. list_any-from_Any p xs (found.0, found.1, found.2, found.3, (each found.1).1 found.4),
)

-- a signature is enrolled exactly where its row is in the list
pub is_enrolled-Decides : (rows : List HookRow) (key : Key) (message signature : List ℕ)
    → Decides (is_enrolled rows key message signature)
    (Any (IsRowOf key.algorithm key.bytes (message_digest key.algorithm message) signature) rows)
unfolding is_enrolled
is_enrolled-Decides rows key message signature =
    list_any-Decides _ _ (is_row_of-Decides key.algorithm key.bytes (message_digest key.algorithm message) signature) rows

-- so the answer of a hook says whether it is
pub answer_is_enrolled : (rows : List HookRow) (key : Key) (message signature : List ℕ) (told : Bool)
    → (IsTrue told ↔ Any (IsRowOf key.algorithm key.bytes (message_digest key.algorithm message) signature) rows)
    → told ≡ is_enrolled rows key message signature
answer_is_enrolled rows key message signature told answer =
    one_answer told (is_enrolled rows key message signature) (answer.0, answer.1) (is_enrolled-Decides rows key message signature)
