-- When two rows of a hook are one.
use Rattle.std.proofs.Common.{◌≡◌, ℕ, ◌-◌, Bool, true, List, drop, refl, sym, ◌∙◌, ap, subst}
use Rattle.std.proofs.lemmas.Bool.Decides.{Decides-eqb, Decides-and, Decides-like}
use Rattle.std.proofs.lemmas.List.Elements.{contains_decides, Decides-contains}
use Rattle.std.proofs.lemmas.Slice.Eq.{slice_eq-Decides}
use mathlib.Core.HLevel.{is_prop→PathP}
use Rattle.std.specs.Bool.{Decides}
use Rattle.std.specs.Cmp.Lexicographic.{pointwise}
use Rattle.std.specs.List.{IsAnyAnswer}
use Rattle.std.specs.Prelude.{IsTrue, replicate, Contains, Any, ◌==◌, ◌&&◌, nat_eq, slice_index_or}
use Rattle.board_core.specs.Hook.{IsRowOf}
use Rattle.std.specs.Coded.{Coded-set, coded_ℕ, coded_bool, coded_list}
use Rattle.board_core.specs.HookRow.{is_digest_size}
use Rattle.board_core.specs.declared.hook_row.HookRow.{HookRow}

-- two rows whose fields are the same are one, since what a row keeps has one proof at most
pub row_path : (a b : HookRow) → a.algorithm ≡ b.algorithm → a.key ≡ b.key → a.digest_len ≡ b.digest_len → a.digest ≡ b.digest → a.signature ≡ b.signature → a ≡ b
row_path a b algorithm key digest_len digest signature = λ i. record {
  algorithm = algorithm i;
  key = key i;
  digest_len = digest_len i;
  digest = digest i;
  signature = signature i;
  digest_size = is_prop→PathP (λ i. IsTrue (is_digest_size (digest_len i))) (λ i. Coded-set coded_bool (is_digest_size (digest_len i)) true) a.digest_size b.digest_size i;
  zeros_after = is_prop→PathP (λ i. drop (digest_len i) (digest i) ≡ replicate (64 - digest_len i) 0) (λ i. Coded-set (coded_list coded_ℕ) (drop (digest_len i) (digest i)) (replicate (64 - digest_len i) 0)) a.zeros_after b.zeros_after i;
}

-- what `==` computes of two rows
abbrev row_test : HookRow → HookRow → Bool
row_test a b = (a.algorithm == b.algorithm) && (pointwise nat_eq a.key b.key && ((a.digest_len == b.digest_len) && (pointwise nat_eq a.digest b.digest && pointwise nat_eq a.signature b.signature)))

-- `==` answers yes exactly where two rows are one
row_test-Decides : (a b : HookRow) → Decides (row_test a b) (a ≡ b)
row_test-Decides a b =
    Decides-like (row_test a b)
    (λ same. row_path a b same.0 same.1.0 same.1.1.0 same.1.1.1.0 same.1.1.1.1)
    (λ same. (ap (λ (row : HookRow). row.algorithm) same, (ap (λ (row : HookRow). row.key) same, (ap (λ (row : HookRow). row.digest_len) same, (ap (λ (row : HookRow). row.digest) same, ap (λ (row : HookRow). row.signature) same)))))
    (Decides-and _ _ (Decides-eqb a.algorithm b.algorithm)
    (Decides-and _ _ (slice_eq-Decides Decides-eqb a.key b.key _ refl)
    (Decides-and _ _ (Decides-eqb a.digest_len b.digest_len)
    (Decides-and _ _ (slice_eq-Decides Decides-eqb a.digest b.digest _ refl)
    (slice_eq-Decides Decides-eqb a.signature b.signature _ refl)))))

-- what `contains` says of a list of rows
pub contains-Decides : (rows : List HookRow) (row : HookRow) (found : Bool) → IsAnyAnswer (λ (other : HookRow) answer. row_test other row ≡ answer) rows found → Decides found (Contains rows row)
contains-Decides rows row found h = Decides-contains rows row found (contains_decides row_test row_test-Decides rows row found h)

-- where the row of a signature is in the list, some such row is
pub Contains-Any : (number : ℕ) (key digest signature : List ℕ) (row : HookRow) (rows : List HookRow) → IsRowOf number key digest signature row → Contains rows row → Any (IsRowOf number key digest signature) rows
Contains-Any number key digest signature row rows is_row h = (h.0, row, h.1, h.2, is_row)

-- where some row of a signature is in the list, it is this one, since there is one such row
pub Any-Contains : (number : ℕ) (key digest signature : List ℕ) (row : HookRow) (rows : List HookRow) → IsRowOf number key digest signature row → Any (IsRowOf number key digest signature) rows → Contains rows row
Any-Contains number key digest signature row rows is_row h =
    let other : HookRow = h.1 in
    let found : IsRowOf number key digest signature other = h.4 in
    let same : other ≡ row = row_path other row (found.algorithm ∙ sym is_row.algorithm) (found.key ∙ sym is_row.key) (found.digest_len ∙ sym is_row.digest_len) (found.digest ∙ sym is_row.digest) (found.signature ∙ sym is_row.signature) in
    (h.0, h.2, subst (λ (x : HookRow). slice_index_or rows h.0 x ≡ x) same h.3)
