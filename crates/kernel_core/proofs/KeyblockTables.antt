-- The tables of a kernel's keyblock: with the signature as seal, with the hash as seal, and which of them is taken.
use Rattle.std.proofs.Common.{◌≡◌, ℕ, ◌≤◌, ◌<◌, Bool, true, false, cond, Option, Some, None, List, ◌++◌, length, refl, sym, ap, ◌∙◌, arith}
use Rattle.std.specs.Prelude.{◌&&◌, nat_le, is_some}
use Rattle.wire_core.specs.FirstFault.{Table, first_fault}
use Rattle.wire_core.proofs.FirstFault.{first_fault-append, first_fault-append_some}
use Rattle.key_core.specs.Keyblocks.{Keyblock, keyblock_lines, keyblock_in, seal_of, data_key_of}
use Rattle.key_core.specs.Parts.{Key}
use Rattle.key_core.specs.declared.keyblock.Seal.TheVariants as seals
use Rattle.key_core.specs.declared.fault.KeyblockFault.{KeyblockFault}
use Rattle.chain_core.specs.SlotNumbers.{keyblock_number}
use Rattle.preamble_core.specs.Lines.{lifted}
use Rattle.chain_core.specs.Tables.{KeyblockQuestion, keyblock_table, data_key_lines}
use Rattle.chain_core.specs.Checking.{view_question}
use Rattle.chain_core.proofs.Checking.{same_data_key}
use Rattle.preamble_core.proofs.Lifted.{lifted-none, lifted-some}
use Rattle.kernel_core.specs.Rules.{hash_is_enough}
use Rattle.kernel_core.specs.KernelTables.{KernelKeyblockQuestion, signed_question, lines_to_seal, flag_lines, flag_question, signed_table}
use Rattle.kernel_core.specs.KernelTables.{HashQuestion, hash_lines, hash_question, unchecked_question, hashed_table, kernel_keyblock_fault}
use Rattle.kernel_core.proofs.Numbered.{Numbered, in_front, behind_front, none_in_front}

abbrev same_fault : KeyblockFault → KeyblockFault
same_fault fault = fault

-- ---- with the signature as seal

abbrev keyblock_part : Table KernelKeyblockQuestion KeyblockFault
keyblock_part = lifted signed_question (λ fault. fault) keyblock_table

abbrev flag_part : Table KernelKeyblockQuestion KeyblockFault
flag_part = lifted flag_question (λ fault. fault) flag_lines

pub signed_fault : (q : KernelKeyblockQuestion) (fault : KeyblockFault) → first_fault keyblock_table (signed_question q) ≡ Some fault
    → first_fault signed_table q ≡ Some fault
unfolding signed_table
signed_fault q fault e = first_fault-append_some keyblock_part flag_part q fault
    (lifted-some signed_question same_fault keyblock_table q fault e)

flags_decide : (q : KernelKeyblockQuestion) → first_fault keyblock_table (signed_question q) ≡ None
    → first_fault signed_table q ≡ first_fault flag_part q
unfolding signed_table
flags_decide q none = first_fault-append keyblock_part flag_part q (lifted-none signed_question same_fault keyblock_table q none)

pub flags_fault : (q : KernelKeyblockQuestion) (fault : KeyblockFault) → first_fault keyblock_table (signed_question q) ≡ None
    → first_fault flag_lines (flag_question q) ≡ Some fault → first_fault signed_table q ≡ Some fault
flags_fault q fault none e = flags_decide q none ∙ lifted-some flag_question same_fault flag_lines q fault e

pub no_signed_fault : (q : KernelKeyblockQuestion) → first_fault keyblock_table (signed_question q) ≡ None
    → first_fault flag_lines (flag_question q) ≡ None → first_fault signed_table q ≡ None
no_signed_fault q none e = flags_decide q none ∙ lifted-none flag_question same_fault flag_lines q e

-- ---- with the hash as seal

-- what the first call found: the bytes alone show no fault
pub record HashViewed (bytes : List ℕ) (keyblock : Keyblock) : Type 0 where
  pub none : first_fault (keyblock_lines seals.Hash) bytes ≡ None
  pub parts : keyblock ≡ keyblock_in seals.Hash bytes
  pub seal_size : length keyblock.seal_bytes ≡ (seal_of seals.Hash bytes).size
  pub key_size : length keyblock.data_key.bytes ≡ (data_key_of bytes).size

abbrev hash_part : Table (List ℕ) KeyblockFault
hash_part = lifted hash_question (λ fault. fault) hash_lines

abbrev key_part : Table (List ℕ) KeyblockFault
key_part = lifted unchecked_question (λ fault. fault) data_key_lines

pub hashed_view_fault : (bytes : List ℕ) (fault : KeyblockFault) → first_fault (keyblock_lines seals.Hash) bytes ≡ Some fault
    → first_fault hashed_table bytes ≡ Some fault
unfolding hashed_table
hashed_view_fault bytes fault e = first_fault-append_some (keyblock_lines seals.Hash) (hash_part ++ key_part) bytes fault e

behind_view : (bytes : List ℕ) → first_fault (keyblock_lines seals.Hash) bytes ≡ None
    → first_fault hashed_table bytes ≡ first_fault (hash_part ++ key_part) bytes
unfolding hashed_table
behind_view bytes none = first_fault-append (keyblock_lines seals.Hash) (hash_part ++ key_part) bytes none

-- what is asked of the hash, of its view
abbrev pub hash_asked : Keyblock → HashQuestion
hash_asked keyblock = record { size = length keyblock.seal_bytes; hash = keyblock.seal_bytes; signed = keyblock.signed }

same_hash : (a b : HashQuestion) → a.size ≡ b.size → a.hash ≡ b.hash → a.signed ≡ b.signed → a ≡ b
same_hash a b size hash signed = λ i. record { size = size i; hash = hash i; signed = signed i }

hash_same : (bytes : List ℕ) (keyblock : Keyblock) → HashViewed bytes keyblock → hash_asked keyblock ≡ hash_question bytes
hash_same bytes keyblock viewed =
    same_hash (hash_asked keyblock) (hash_question bytes) viewed.seal_size (ap (λ (k : Keyblock). k.seal_bytes) viewed.parts)
    (ap (λ (k : Keyblock). k.signed) viewed.parts)

key_same : (bytes : List ℕ) (keyblock : Keyblock) → HashViewed bytes keyblock
    → view_question keyblock.data_key 0 false ≡ unchecked_question bytes
key_same bytes keyblock viewed =
    same_data_key (view_question keyblock.data_key 0 false) (unchecked_question bytes)
    (ap (λ (k : Keyblock). k.data_key.algorithm) viewed.parts) viewed.key_size
    (ap (λ (k : Keyblock). k.data_key.version) viewed.parts) refl refl

pub hashed_seal_fault : (bytes : List ℕ) (keyblock : Keyblock) (fault : KeyblockFault) → HashViewed bytes keyblock
    → first_fault hash_lines (hash_asked keyblock) ≡ Some fault → first_fault hashed_table bytes ≡ Some fault
hashed_seal_fault bytes keyblock fault viewed e =
    behind_view bytes viewed.none
    ∙ first_fault-append_some hash_part key_part bytes fault
    (lifted-some hash_question same_fault hash_lines bytes fault (ap (first_fault hash_lines) (sym (hash_same bytes keyblock viewed)) ∙ e))

behind_seal : (bytes : List ℕ) (keyblock : Keyblock) → HashViewed bytes keyblock → first_fault hash_lines (hash_asked keyblock) ≡ None
    → first_fault hashed_table bytes ≡ first_fault key_part bytes
behind_seal bytes keyblock viewed e =
    behind_view bytes viewed.none
    ∙ first_fault-append hash_part key_part bytes
    (lifted-none hash_question same_fault hash_lines bytes (ap (first_fault hash_lines) (sym (hash_same bytes keyblock viewed)) ∙ e))

pub hashed_key_fault : (bytes : List ℕ) (keyblock : Keyblock) (fault : KeyblockFault) → HashViewed bytes keyblock
    → first_fault hash_lines (hash_asked keyblock) ≡ None
    → first_fault data_key_lines (view_question keyblock.data_key 0 false) ≡ Some fault → first_fault hashed_table bytes ≡ Some fault
hashed_key_fault bytes keyblock fault viewed none e =
    behind_seal bytes keyblock viewed none ∙ lifted-some unchecked_question same_fault data_key_lines bytes fault
    (ap (first_fault data_key_lines) (sym (key_same bytes keyblock viewed)) ∙ e)

pub no_hashed_fault : (bytes : List ℕ) (keyblock : Keyblock) → HashViewed bytes keyblock
    → first_fault hash_lines (hash_asked keyblock) ≡ None
    → first_fault data_key_lines (view_question keyblock.data_key 0 false) ≡ None → first_fault hashed_table bytes ≡ None
no_hashed_fault bytes keyblock viewed none e =
    behind_seal bytes keyblock viewed none ∙ lifted-none unchecked_question same_fault data_key_lines bytes
    (ap (first_fault data_key_lines) (sym (key_same bytes keyblock viewed)) ∙ e)

-- ---- which of them is taken

keyblock_numbered : Numbered keyblock_number 1 keyblock_table
unfolding keyblock_table
keyblock_numbered = (refl, (refl, (refl, (refl, (refl, (refl, (refl, (refl, (refl, (refl, (refl, (refl, (refl, (refl, (refl, (refl, (refl, (refl, tt))))))))))))))))))

within : (n most : ℕ) → nat_le n most ≡ true → n ≤ most
within n most h = grind arith

beyond : (n most : ℕ) → nat_le n most ≡ false → most < n
beyond n most h = grind arith

of_seal : (q : KeyblockQuestion) (fault : KeyblockFault) (b : Bool) → first_fault keyblock_table q ≡ Some fault
    → nat_le (keyblock_number fault) 13 ≡ b → is_some (first_fault lines_to_seal q) ≡ b
unfolding lines_to_seal
of_seal q fault true e h =
    let less = within (keyblock_number fault) 13 h in
    ap is_some (in_front keyblock_number 1 13 keyblock_table q fault keyblock_numbered e (omega (arith, less)))
of_seal q fault false e h =
    let more = beyond (keyblock_number fault) 13 h in
    ap is_some (behind_front keyblock_number 1 13 keyblock_table q fault keyblock_numbered e (omega (arith, more)))

-- whether a fault is of the seal, by its number
to_seal : (q : KeyblockQuestion) (fault : KeyblockFault) → first_fault keyblock_table q ≡ Some fault
    → is_some (first_fault lines_to_seal q) ≡ nat_le (keyblock_number fault) 13
to_seal q fault e = of_seal q fault (nat_le (keyblock_number fault) 13) e refl

-- where the signature's table has a fault
pub by_fault : (q : KernelKeyblockQuestion) (fault : KeyblockFault) → first_fault keyblock_table (signed_question q) ≡ Some fault
    → kernel_keyblock_fault q ≡ cond (hash_is_enough q.rules && nat_le (keyblock_number fault) 13) (first_fault hashed_table q.bytes)
    (first_fault signed_table q)
by_fault q fault e = ap (λ (b : Bool). cond (hash_is_enough q.rules && b) (first_fault hashed_table q.bytes) (first_fault signed_table q))
    (to_seal (signed_question q) fault e)

-- where it has none
and_false : (b : Bool) → (b && false) ≡ false
and_false true = refl
and_false false = refl

none_to_seal : (q : KeyblockQuestion) → first_fault keyblock_table q ≡ None → is_some (first_fault lines_to_seal q) ≡ false
unfolding lines_to_seal
none_to_seal q e = ap is_some (none_in_front 13 keyblock_table q e)

pub by_none : (q : KernelKeyblockQuestion) → first_fault keyblock_table (signed_question q) ≡ None
    → kernel_keyblock_fault q ≡ first_fault signed_table q
by_none q e =
    ap (λ (b : Bool). cond (hash_is_enough q.rules && b) (first_fault hashed_table q.bytes) (first_fault signed_table q))
    (none_to_seal (signed_question q) e)
    ∙ ap (λ (b : Bool). cond b (first_fault hashed_table q.bytes) (first_fault signed_table q)) (and_false (hash_is_enough q.rules))

-- ---- what the calls were asked

abbrev pub hash_of : (hash signed : List ℕ) → HashQuestion
hash_of hash signed = record { size = length hash; hash = hash; signed = signed }

pub hash_read : (keyblock : Keyblock) (hash signed : List ℕ) (found answer : Option KeyblockFault) → hash ≡ keyblock.seal_bytes
    → signed ≡ keyblock.signed → found ≡ first_fault hash_lines (hash_of hash signed) → found ≡ answer
    → first_fault hash_lines (hash_asked keyblock) ≡ answer
hash_read keyblock hash signed found answer same_hash_bytes same_signed is answered =
    sym (is ∙ ap (first_fault hash_lines) (same_hash (hash_of hash signed) (hash_asked keyblock)
    (ap (λ (xs : List ℕ). length xs) same_hash_bytes) same_hash_bytes same_signed)) ∙ answered

pub key_read : (key asked : Key) (stored : ℕ) (rollback : Bool) (found answer : Option KeyblockFault) → asked ≡ key
    → found ≡ first_fault data_key_lines (view_question asked stored rollback) → found ≡ answer
    → first_fault data_key_lines (view_question key stored rollback) ≡ answer
key_read key asked stored rollback found answer same is answered =
    sym (is ∙ ap (λ (k : Key). first_fault data_key_lines (view_question k stored rollback)) same) ∙ answered
