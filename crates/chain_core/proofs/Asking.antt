-- Asking a hook for the digest of a message is asking for the message.
use Rattle.std.proofs.Common.{◌≡◌, ℕ, Bool, true, false, List, Result, Ok, Err, take, sym, subst}
use Rattle.std.proofs.lemmas.Bool.{cond-true, cond-false}
use Rattle.std.specs.Prelude.{IsTrue, Any, IfOk, ◌↔◌}
use Rattle.sha2.specs.Sha256.{sha256}
use Rattle.sha2.specs.Sha512.{sha512}
use Rattle.board_core.specs.Hook.{HookState, IsRowOf, Verifies}
use Rattle.board_core.specs.declared.hook_row.HookRow.{HookRow}
use Rattle.key_core.specs.Parts.{Key}
use Rattle.key_core.specs.declared.key.PackedKey.{PackedKey}
use Rattle.chain_core.specs.Hashing.{has_sha256, message_digest}
use Rattle.chain_core.specs.Accepted.{key_of, is_enrolled, AsksFor}
use Rattle.chain_core.proofs.Rows.{answer_is_enrolled}

pub digest_256 : (algorithm : ℕ) (message : List ℕ) → has_sha256 algorithm ≡ true → sha256 message ≡ message_digest algorithm message
unfolding message_digest
digest_256 algorithm message e = sym (cond-true (has_sha256 algorithm) (sha256 message) (sha512 message) e)

pub digest_512 : (algorithm : ℕ) (message : List ℕ) → has_sha256 algorithm ≡ false → sha512 message ≡ message_digest algorithm message
unfolding message_digest
digest_512 algorithm message e = sym (cond-false (has_sha256 algorithm) (sha256 message) (sha512 message) e)

answered : {E : Type 0} (rows : List HookRow) (key : Key) (message digest signature : List ℕ) (result : Result Bool E)
    → digest ≡ message_digest key.algorithm message
    → IfOk result (λ said. IsTrue said ↔ Any (IsRowOf key.algorithm key.bytes digest signature) rows)
    → IfOk result (λ said. said ≡ is_enrolled rows key message signature)
answered rows key message digest signature (Ok said) same answer =
    answer_is_enrolled rows key message signature said
    (subst (λ (d : List ℕ). IsTrue said ↔ Any (IsRowOf key.algorithm key.bytes d signature) rows) same answer)
answered rows key message digest signature (Err e) same answer = answer

asks_key : {E : Type 0} (key : Key) (message digest signature : List ℕ) (old new : HookState) (result : Result Bool E)
    → digest ≡ message_digest key.algorithm message
    → Verifies key.algorithm key.bytes digest signature old new result → AsksFor key message signature old new result
asks_key key message digest signature old new result same verifies = record {
  asked = record { faults = verifies.faults; told = verifies.told; rows = verifies.rows };
  answer = λ told. answered old.rows key message digest signature result same (verifies.answer told);
}

-- the bytes of the key were handed to the hook
pub asks_for : {E : Type 0} (packed : PackedKey) (bytes message digest signature : List ℕ) (old new : HookState) (result : Result Bool E)
    → bytes ≡ take packed.size packed.bytes
    → digest ≡ message_digest packed.algorithm message → Verifies packed.algorithm bytes digest signature old new result
    → AsksFor (key_of packed) message signature old new result
asks_for packed bytes message digest signature old new result front same verifies =
    asks_key (key_of packed) message digest signature old new result same
    (subst (λ (b : List ℕ). Verifies packed.algorithm b digest signature old new result) front verifies)
