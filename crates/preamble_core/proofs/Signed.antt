-- All of a preamble but its signature is read from what is signed.
use Rattle.std.proofs.Common.{◌≡◌, ℕ, ◌+◌, ◌≤◌, ◌==◌, Bool, true, false, cond, not, None, List, ◌∷◌, take, ap, sym, ◌∙◌, arith}
use Rattle.wire_core.proofs.Prefixes.{number_at-take}
use Rattle.wire_core.specs.Fields.{number_at}
use Rattle.wire_core.specs.FirstFault.{first_fault, Table, Line, line}
use Rattle.wire_core.proofs.FirstFault.{first_fault-append, first_fault-later}
use Rattle.key_core.specs.Parts.{key_in, key_is_inside, signature_bytes, signature_is_inside}
use Rattle.key_core.specs.declared.parts.KeyHead.{KeyHead}
use Rattle.key_core.specs.declared.parts.SignatureHead.{SignatureHead}
use Rattle.key_core.proofs.Signed.{is_inside-end, key_in-take, signature_at-take, signature_bytes-take}
use Rattle.preamble_core.specs.Common.{head_size, body_place, size_of, version_of, signature_of, body_signature_of, head_lines, body_lines, CommonPreamble, CommonIsSigned}
use Rattle.preamble_core.specs.Firmware.{subkey_of, shared, firmware_lines}
use Rattle.preamble_core.specs.Lines.{firmware_line}
use Rattle.preamble_core.specs.declared.fault.FwPreambleFault.{FwPreambleFault}
use Rattle.preamble_core.specs.declared.fault.FwPreambleFault.TheVariants.{SubkeyOutside}
use Rattle.preamble_core.proofs.Lifted.{lifted-none}
use Rattle.preamble_core.specs.declared.common.PreambleKind.{PreambleKind}
use Rattle.preamble_core.specs.declared.common.PreambleKind.TheVariants as kinds

-- a kernel preamble's structure is never shorter than at minor version 0
shortest : (a b : Bool) → 96 ≤ cond a 96 (cond b 112 116)
shortest true b = omega arith
shortest false true = omega arith
shortest false false = omega arith

-- the structure holds the body signature's
pub body-in_head : (kind : PreambleKind) (minor : ℕ) → body_place kind + 24 ≤ head_size kind minor
body-in_head kinds.Firmware minor = omega arith
body-in_head kinds.Kernel minor = shortest (minor == 0) (minor == 1)

-- and the version
pub version-in_head : (kind : PreambleKind) (minor : ℕ) → 96 ≤ head_size kind minor
version-in_head kinds.Firmware minor = omega arith
version-in_head kinds.Kernel minor = shortest (minor == 0) (minor == 1)

-- the parts, read from all bytes, of which the first n are signed
pub record ReadFrom (kind : PreambleKind) (bytes : List ℕ) (n minor : ℕ) (preamble : CommonPreamble) (body : SignatureHead) : Type 0 where
  pub size : preamble.size ≡ size_of bytes
  pub version : preamble.version ≡ version_of bytes
  pub signed : preamble.signed ≡ take n bytes
  pub body_len : preamble.body_len ≡ body.data_size
  pub body_signature : preamble.body_signature ≡ signature_bytes bytes body
  pub body_is : body ≡ body_signature_of kind bytes
  pub head : head_size kind minor ≤ n
  pub body_inside : signature_is_inside n body ≡ true

pub ReadFrom-signed : (kind : PreambleKind) (bytes : List ℕ) (n minor : ℕ) (preamble : CommonPreamble) (body : SignatureHead)
    → ReadFrom kind bytes n minor preamble body → CommonIsSigned kind preamble
ReadFrom-signed kind bytes n minor preamble body read =
    let at = body_place kind in
    let head : head_size kind minor ≤ n = read.head in
    let body_head : at + 24 ≤ head_size kind minor = body-in_head kind minor in
    let version_head : 96 ≤ head_size kind minor = version-in_head kind minor in
    let long : at + 24 ≤ n = omega arith in
    let whole = body_signature_of kind bytes in
    let inside : signature_is_inside n whole ≡ true = ap (signature_is_inside n) (sym read.body_is) ∙ read.body_inside in
    let within : at + whole.offset + whole.size ≤ n = is_inside-end n at 24 whole.offset whole.size inside in
    let signed = sym read.signed in
    record {
      size = read.size ∙ sym (number_at-take 4 0 n bytes (omega arith)) ∙ ap size_of signed;
      version = read.version ∙ sym (number_at-take 4 40 n bytes (omega arith)) ∙ ap version_of signed;
      body_len = read.body_len ∙ ap (λ (s : SignatureHead). s.data_size) (read.body_is ∙ sym (signature_at-take n bytes at long))
          ∙ ap (λ (xs : List ℕ). (body_signature_of kind xs).data_size) signed;
      body_signature = read.body_signature ∙ ap (signature_bytes bytes) read.body_is ∙ signature_bytes-take n bytes at long within
          ∙ ap (λ (xs : List ℕ). signature_bytes xs (body_signature_of kind xs)) signed;
    }

-- a number that lies in what is signed
pub number-signed : (width place n : ℕ) (bytes signed : List ℕ) (number : ℕ) → number ≡ number_at width bytes place → signed ≡ take n bytes
    → place + width ≤ n → number ≡ number_at width signed place
number-signed width place n bytes signed number is same within =
    is ∙ sym (number_at-take width place n bytes within) ∙ ap (λ (xs : List ℕ). number_at width xs place) (sym same)

-- the subkey, which lies in what is signed
pub subkey-signed : (n : ℕ) (bytes signed : List ℕ) (key : KeyHead) → key ≡ subkey_of bytes → signed ≡ take n bytes → 108 ≤ n
    → key_is_inside n key ≡ true → key_in bytes key ≡ key_in signed (subkey_of signed)
subkey-signed n bytes signed key is same long within =
    let whole = subkey_of bytes in
    let inside : key_is_inside n whole ≡ true = ap (key_is_inside n) (sym is) ∙ within in
    let key_within : 48 + whole.offset + whole.size ≤ n = is_inside-end n 48 32 whole.offset whole.size inside in
    ap (key_in bytes) is ∙ key_in-take n bytes 48 (omega arith) key_within ∙ ap (λ (xs : List ℕ). key_in xs (subkey_of xs)) (sym same)

-- ---- the table of a firmware preamble

abbrev subkey_line : Line (List ℕ) FwPreambleFault
subkey_line = line SubkeyOutside (λ bytes. not (key_is_inside (signature_of bytes).data_size (subkey_of bytes)))

-- of none of its lines the test holds
pub no_firmware_fault : (bytes : List ℕ) → first_fault (head_lines kinds.Firmware) bytes ≡ None
    → not (key_is_inside (signature_of bytes).data_size (subkey_of bytes)) ≡ false → first_fault (body_lines kinds.Firmware) bytes ≡ None
    → first_fault firmware_lines bytes ≡ None
no_firmware_fault bytes head subkey body =
    let same : List ℕ → List ℕ = λ bytes. bytes in
    let back : Table (List ℕ) FwPreambleFault = shared (body_lines kinds.Firmware) in
    first_fault-append (shared (head_lines kinds.Firmware)) (subkey_line ∷ back) bytes
    (lifted-none same firmware_line (head_lines kinds.Firmware) bytes head)
    ∙ first_fault-later subkey_line back bytes subkey
    ∙ lifted-none same firmware_line (body_lines kinds.Firmware) bytes body
