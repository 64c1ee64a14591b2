-- The table of a keyblock, line group by line group.
use Rattle.std.proofs.Common.{◌≡◌, ℕ, Bool, true, false, cond, not, Some, None, List, ◌++◌, length, take, refl, ap, sym, ◌∙◌, ◌==◌}
use Rattle.wire_core.specs.FirstFault.{Table, first_fault}
use Rattle.wire_core.proofs.FirstFault.{first_fault-append, first_fault-append_some}
use Rattle.key_core.specs.Algorithms.{signature_length}
use Rattle.key_core.specs.Keyblocks.{Keyblock, keyblock_lines, seal_of, data_key_of}
use Rattle.key_core.specs.declared.keyblock.Seal.TheVariants as seals
use Rattle.key_core.specs.declared.fault.KeyblockFault.{KeyblockFault}
use Rattle.key_core.specs.declared.fault.KeyblockFault.TheVariants as keyblock_faults
use Rattle.chain_core.specs.Accepted.{key_of, is_enrolled}
use Rattle.preamble_core.specs.Lines.{lifted}
use Rattle.chain_core.specs.Tables.{KeyblockQuestion, keyblock_of, signer_lines, seal_lines, data_key_lines, signer_question}
use Rattle.chain_core.specs.Tables.{data_key_question, DataKeyQuestion, keyblock_table, keyblock_front}
use Rattle.chain_core.specs.Checking.{view_question}
use Rattle.preamble_core.proofs.Lifted.{lifted-none, lifted-some, is_other, is_same}

-- ---- four tables in a row

at_second : {Q F : Type 0} (a b c : Table Q F) (q : Q) (fault : F) → first_fault a q ≡ None → first_fault b q ≡ Some fault
    → first_fault (a ++ (b ++ c)) q ≡ Some fault
at_second a b c q fault none some = first_fault-append a (b ++ c) q none ∙ first_fault-append_some b c q fault some

at_third : {Q F : Type 0} (a b c d : Table Q F) (q : Q) (fault : F) → first_fault a q ≡ None → first_fault b q ≡ None
    → first_fault c q ≡ Some fault → first_fault (a ++ (b ++ (c ++ d))) q ≡ Some fault
at_third a b c d q fault none none' some = first_fault-append a (b ++ (c ++ d)) q none ∙ at_second b c d q fault none' some

at_fourth : {Q F : Type 0} (a b c d : Table Q F) (q : Q) → first_fault a q ≡ None → first_fault b q ≡ None → first_fault c q ≡ None
    → first_fault (a ++ (b ++ (c ++ d))) q ≡ first_fault d q
at_fourth a b c d q none none' none'' = first_fault-append a (b ++ (c ++ d)) q none ∙ first_fault-append b (c ++ d) q none'
    ∙ first_fault-append c d q none''

-- ---- two lines: a size, and what the hook says

pub two_size : {F : Type 0} (a b : ℕ) (enrolled : Bool) (size refused : F) → (a ≡ b → ⊥)
    → cond (not (a == b)) (Some size) (cond (not enrolled) (Some refused) None) ≡ Some size
two_size a b enrolled size refused other = ap (λ t. cond t (Some size) (cond (not enrolled) (Some refused) None)) (is_other a b other)

pub two_refused : {F : Type 0} (a b : ℕ) (enrolled : Bool) (size refused : F) → a ≡ b → enrolled ≡ false
    → cond (not (a == b)) (Some size) (cond (not enrolled) (Some refused) None) ≡ Some refused
two_refused a b enrolled size refused same says =
    ap (λ t. cond t (Some size) (cond (not enrolled) (Some refused) None)) (is_same a b same)
    ∙ ap (λ t. cond (not t) (Some refused) None) says

pub two_none : {F : Type 0} (a b : ℕ) (enrolled : Bool) (size refused : F) → a ≡ b → enrolled ≡ true
    → cond (not (a == b)) (Some size) (cond (not enrolled) (Some refused) None) ≡ None
two_none a b enrolled size refused same says =
    ap (λ t. cond t (Some size) (cond (not enrolled) (Some refused) None)) (is_same a b same)
    ∙ ap (λ t. cond (not t) (Some refused) None) says

-- ---- a keyblock

-- what the first calls found: the bytes alone show no fault
pub record Viewed (q : KeyblockQuestion) (keyblock : Keyblock) : Type 0 where
  pub none : first_fault (keyblock_lines seals.Signature) q.bytes ≡ None
  pub parts : keyblock ≡ keyblock_of q
  pub seal_size : length keyblock.seal_bytes ≡ (seal_of seals.Signature q.bytes).size
  pub key_size : length keyblock.data_key.bytes ≡ (data_key_of q.bytes).size

abbrev same_fault : KeyblockFault → KeyblockFault
same_fault fault = fault

abbrev bytes_of : KeyblockQuestion → List ℕ
bytes_of q = q.bytes

abbrev view_lines : Table KeyblockQuestion KeyblockFault
view_lines = lifted (λ q. q.bytes) (λ fault. fault) (keyblock_lines seals.Signature)

abbrev signer_part : Table KeyblockQuestion KeyblockFault
signer_part = lifted signer_question (λ fault. fault) signer_lines

abbrev data_key_part : Table KeyblockQuestion KeyblockFault
data_key_part = lifted data_key_question (λ fault. fault) data_key_lines

no_view : (q : KeyblockQuestion) → first_fault (keyblock_lines seals.Signature) q.bytes ≡ None → first_fault view_lines q ≡ None
no_view q e = lifted-none bytes_of same_fault (keyblock_lines seals.Signature) q e

no_signer : (q : KeyblockQuestion) → first_fault signer_lines (signer_question q) ≡ None → first_fault signer_part q ≡ None
no_signer q e = lifted-none signer_question same_fault signer_lines q e

pub view_fault : (q : KeyblockQuestion) (fault : KeyblockFault) → first_fault (keyblock_lines seals.Signature) q.bytes ≡ Some fault
    → first_fault keyblock_table q ≡ Some fault
unfolding keyblock_table
view_fault q fault e =
    first_fault-append_some view_lines (signer_part ++ (seal_lines ++ data_key_part)) q fault
    (lifted-some bytes_of same_fault (keyblock_lines seals.Signature) q fault e)

pub signer_fault : (q : KeyblockQuestion) (fault : KeyblockFault) → first_fault (keyblock_lines seals.Signature) q.bytes ≡ None
    → first_fault signer_lines (signer_question q) ≡ Some fault → first_fault keyblock_table q ≡ Some fault
unfolding keyblock_table
signer_fault q fault none e =
    at_second view_lines signer_part (seal_lines ++ data_key_part) q fault (no_view q none)
    (lifted-some signer_question same_fault signer_lines q fault e)

seal_at : (q : KeyblockQuestion) (fault : KeyblockFault) → first_fault (keyblock_lines seals.Signature) q.bytes ≡ None
    → first_fault signer_lines (signer_question q) ≡ None → first_fault seal_lines q ≡ Some fault
    → first_fault keyblock_table q ≡ Some fault
unfolding keyblock_table
seal_at q fault none signer e = at_third view_lines signer_part seal_lines data_key_part q fault (no_view q none) (no_signer q signer) e

key_at : (q : KeyblockQuestion) → first_fault (keyblock_lines seals.Signature) q.bytes ≡ None
    → first_fault signer_lines (signer_question q) ≡ None → first_fault seal_lines q ≡ None
    → first_fault keyblock_table q ≡ first_fault data_key_part q
unfolding keyblock_table
key_at q none signer seal = at_fourth view_lines signer_part seal_lines data_key_part q (no_view q none) (no_signer q signer) seal

-- what the hook was asked is what the line asks
pub enrolled_same : (q : KeyblockQuestion) (keyblock : Keyblock) (said answer : Bool) → keyblock ≡ keyblock_of q
    → said ≡ is_enrolled q.rows (key_of q.signer) keyblock.signed keyblock.seal_bytes → said ≡ answer
    → is_enrolled q.rows (key_of q.signer) (keyblock_of q).signed (keyblock_of q).seal_bytes ≡ answer
enrolled_same q keyblock said answer parts says is = ap (λ (k : Keyblock). is_enrolled q.rows (key_of q.signer) k.signed k.seal_bytes)
    (sym parts) ∙ sym says ∙ is

pub seal_size_fault : (q : KeyblockQuestion) (keyblock : Keyblock) → Viewed q keyblock → first_fault signer_lines (signer_question q) ≡ None
    → (length keyblock.seal_bytes ≡ signature_length q.signer.algorithm → ⊥)
    → first_fault keyblock_table q ≡ Some keyblock_faults.SealSize
seal_size_fault q keyblock viewed signer other =
    seal_at q keyblock_faults.SealSize viewed.none signer
    (two_size (seal_of seals.Signature q.bytes).size (signature_length q.signer.algorithm)
    (is_enrolled q.rows (key_of q.signer) (keyblock_of q).signed
    (keyblock_of q).seal_bytes) keyblock_faults.SealSize keyblock_faults.Refused (λ e. other (viewed.seal_size ∙ e)))

abbrev size_part : Table KeyblockQuestion KeyblockFault
size_part = take 1 seal_lines

-- then no line before that of the signature holds
pub no_front : (q : KeyblockQuestion) (keyblock : Keyblock) → Viewed q keyblock → first_fault signer_lines (signer_question q) ≡ None
    → length keyblock.seal_bytes ≡ signature_length q.signer.algorithm → first_fault keyblock_front q ≡ None
unfolding keyblock_table keyblock_front
no_front q keyblock viewed signer size =
    let same = sym viewed.seal_size ∙ size in
    first_fault-append view_lines (signer_part ++ size_part) q (no_view q viewed.none)
    ∙ first_fault-append signer_part size_part q (no_signer q signer)
    ∙ ap (λ t. cond t (Some keyblock_faults.SealSize) None)
    (is_same (seal_of seals.Signature q.bytes).size (signature_length q.signer.algorithm) same)

-- The seal has the right size, and the hook said this.
pub record Answered (q : KeyblockQuestion) (keyblock : Keyblock) (said : Bool) : Type 0 where
  pub viewed : Viewed q keyblock
  pub signer : first_fault signer_lines (signer_question q) ≡ None
  pub size : length keyblock.seal_bytes ≡ signature_length q.signer.algorithm
  pub says : said ≡ is_enrolled q.rows (key_of q.signer) keyblock.signed keyblock.seal_bytes

pub refused_fault : (q : KeyblockQuestion) (keyblock : Keyblock) (said : Bool) → Answered q keyblock said → said ≡ false
    → first_fault keyblock_table q ≡ Some keyblock_faults.Refused
refused_fault q keyblock said answered is =
    seal_at q keyblock_faults.Refused answered.viewed.none answered.signer
    (two_refused (seal_of seals.Signature q.bytes).size (signature_length q.signer.algorithm)
    (is_enrolled q.rows (key_of q.signer) (keyblock_of q).signed
    (keyblock_of q).seal_bytes) keyblock_faults.SealSize keyblock_faults.Refused (sym answered.viewed.seal_size ∙ answered.size)
    (enrolled_same q keyblock said false answered.viewed.parts answered.says is))

pub same_data_key : (a b : DataKeyQuestion) → a.algorithm ≡ b.algorithm → a.size ≡ b.size → a.version ≡ b.version → a.stored ≡ b.stored
    → a.rollback ≡ b.rollback → a ≡ b
same_data_key a b h s v t r = λ i. record { algorithm = h i; size = s i; version = v i; stored = t i; rollback = r i }

pub data_key_same : (q : KeyblockQuestion) (keyblock : Keyblock) → Viewed q keyblock
    → view_question keyblock.data_key q.stored q.rollback ≡ data_key_question q
data_key_same q keyblock viewed =
    same_data_key (view_question keyblock.data_key q.stored q.rollback) (data_key_question q)
    (ap (λ (k : Keyblock). k.data_key.algorithm) viewed.parts) viewed.key_size
    (ap (λ (k : Keyblock). k.data_key.version) viewed.parts) refl refl

-- the seal is good, so the data key decides
pub sealed : (q : KeyblockQuestion) (keyblock : Keyblock) (said : Bool) → Answered q keyblock said → said ≡ true
    → first_fault keyblock_table q ≡ first_fault data_key_part q
sealed q keyblock said answered is =
    key_at q answered.viewed.none answered.signer
    (two_none (seal_of seals.Signature q.bytes).size (signature_length q.signer.algorithm)
    (is_enrolled q.rows (key_of q.signer) (keyblock_of q).signed
    (keyblock_of q).seal_bytes) keyblock_faults.SealSize keyblock_faults.Refused (sym answered.viewed.seal_size ∙ answered.size)
    (enrolled_same q keyblock said true answered.viewed.parts answered.says is))

pub data_key_some : (q : KeyblockQuestion) (keyblock : Keyblock) (fault : KeyblockFault) → Viewed q keyblock
    → first_fault data_key_lines (view_question keyblock.data_key q.stored q.rollback) ≡ Some fault
    → first_fault data_key_part q ≡ Some fault
data_key_some q keyblock fault viewed e = lifted-some data_key_question same_fault data_key_lines q fault
    (ap (first_fault data_key_lines) (sym (data_key_same q keyblock viewed)) ∙ e)

pub data_key_none : (q : KeyblockQuestion) (keyblock : Keyblock) → Viewed q keyblock
    → first_fault data_key_lines (view_question keyblock.data_key q.stored q.rollback) ≡ None → first_fault data_key_part q ≡ None
data_key_none q keyblock viewed e = lifted-none data_key_question same_fault data_key_lines q
    (ap (first_fault data_key_lines) (sym (data_key_same q keyblock viewed)) ∙ e)
