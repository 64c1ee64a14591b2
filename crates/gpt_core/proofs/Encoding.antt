-- A header that is made is read back.
use Rattle.std.proofs.Common.{◌≡◌, ℕ, ◌+◌, ◌^◌, ◌<◌, List, ◌++◌, length, ap, ◌∙◌, subst, arith, length-append}
use Rattle.byteorder.specs.Endian.{little_bytes}
use Rattle.byteorder.specs.Numbers.{length-bytes_low_first}
use Rattle.wire_core.specs.Fields.{number_at}
use Rattle.board_core.specs.Flash.{range}
use Rattle.gpt_core.proofs.Fronts.{BeginsWith, begins_itself, begins_before, piece_at, number_last}

-- the fields behind the CRC of a header, one behind the other
abbrev pub rest_of : ℕ → ℕ → ℕ → ℕ → List ℕ → ℕ → ℕ → List ℕ
rest_of place other first last guid entries crc =
    little_bytes 4 0 ++ little_bytes 8 place ++ little_bytes 8 other ++ little_bytes 8 first ++ little_bytes 8 last ++ guid
    ++ little_bytes 8 entries ++ little_bytes 4 128 ++ little_bytes 4 128 ++ little_bytes 4 crc

-- What is read of them.
pub record RestHolds (place first last : ℕ) (guid : List ℕ) (entries crc : ℕ) (rest : List ℕ) : Type 0 where
  pub size : length rest ≡ 72
  pub place_is : number_at 8 rest 4 ≡ place
  pub first_is : number_at 8 rest 20 ≡ first
  pub last_is : number_at 8 rest 28 ≡ last
  pub guid_is : range rest 36 16 ≡ guid
  pub entries_is : number_at 8 rest 52 ≡ entries
  pub count_is : number_at 4 rest 60 ≡ 128
  pub size_is : number_at 4 rest 64 ≡ 128
  pub crc_is : number_at 4 rest 68 ≡ crc

-- one more field
grows : (front piece : List ℕ) (n m : ℕ) → length front ≡ n → length piece ≡ m → length (front ++ piece) ≡ n + m
grows front piece n m is size = omega (arith, length-append front piece, is, size)

wide : (n value : ℕ) → length (little_bytes n value) ≡ n
wide n value = length-bytes_low_first 0 n value

-- ten pieces one behind the other, whatever they are
ten : (rest a b c d e f g h i j : List ℕ) → rest ≡ a ++ b ++ c ++ d ++ e ++ f ++ g ++ h ++ i ++ j
    → BeginsWith rest (a ++ b) × BeginsWith rest (a ++ b ++ c ++ d) × BeginsWith rest (a ++ b ++ c ++ d ++ e) × BeginsWith rest (a ++ b ++ c ++ d ++ e ++ f) × BeginsWith rest (a ++ b ++ c ++ d ++ e ++ f ++ g)
    × BeginsWith rest (a ++ b ++ c ++ d ++ e ++ f ++ g ++ h) × BeginsWith rest (a ++ b ++ c ++ d ++ e ++ f ++ g ++ h ++ i) × BeginsWith rest (a ++ b ++ c ++ d ++ e ++ f ++ g ++ h ++ i ++ j)
ten rest a b c d e f g h i j is =
    let front9 : List ℕ = a ++ b ++ c ++ d ++ e ++ f ++ g ++ h ++ i in
    let whole : BeginsWith rest (front9 ++ j) = subst (BeginsWith rest) is (begins_itself rest) in
    let w9 = begins_before rest front9 j whole in
    let w8 = begins_before rest (a ++ b ++ c ++ d ++ e ++ f ++ g ++ h) i w9 in
    let w7 = begins_before rest (a ++ b ++ c ++ d ++ e ++ f ++ g) h w8 in
    let w6 = begins_before rest (a ++ b ++ c ++ d ++ e ++ f) g w7 in
    let w5 = begins_before rest (a ++ b ++ c ++ d ++ e) f w6 in
    let w4 = begins_before rest (a ++ b ++ c ++ d) e w5 in
    let w3 = begins_before rest (a ++ b ++ c) d w4 in
    let w2 = begins_before rest (a ++ b) c w3 in
    (w2, w4, w5, w6, w7, w8, w9, whole)

-- their lengths, where the first has 4, the next four have 8, then 16, 8, 4, 4 and 4
pub rest_holds : (place other first last entries crc : ℕ) (guid rest : List ℕ) → place < 256 ^ 8 → first < 256 ^ 8 → last < 256 ^ 8 → entries < 256 ^ 8 → crc < 256 ^ 4 → length guid ≡ 16
    → rest ≡ rest_of place other first last guid entries crc → RestHolds place first last guid entries crc rest
rest_holds place other first last entries crc guid rest p f l e k g is =
    let a : List ℕ = little_bytes 4 0 in
    let b : List ℕ = little_bytes 8 place in
    let c : List ℕ = little_bytes 8 other in
    let d : List ℕ = little_bytes 8 first in
    let v : List ℕ = little_bytes 8 last in
    let w : List ℕ = little_bytes 8 entries in
    let n : List ℕ = little_bytes 4 128 in
    let x : List ℕ = little_bytes 4 crc in
    let begins = ten rest a b c d v guid w n n x is in
    let l1 : length a ≡ 4 = wide 4 0 in
    let l2 : length (a ++ b) ≡ 12 = grows a b 4 8 l1 (wide 8 place) in
    let l3 : length (a ++ b ++ c) ≡ 20 = grows (a ++ b) c 12 8 l2 (wide 8 other) in
    let l4 : length (a ++ b ++ c ++ d) ≡ 28 = grows (a ++ b ++ c) d 20 8 l3 (wide 8 first) in
    let l5 : length (a ++ b ++ c ++ d ++ v) ≡ 36 = grows (a ++ b ++ c ++ d) v 28 8 l4 (wide 8 last) in
    let l6 : length (a ++ b ++ c ++ d ++ v ++ guid) ≡ 52 = grows (a ++ b ++ c ++ d ++ v) guid 36 16 l5 g in
    let l7 : length (a ++ b ++ c ++ d ++ v ++ guid ++ w) ≡ 60 = grows (a ++ b ++ c ++ d ++ v ++ guid) w 52 8 l6 (wide 8 entries) in
    let l8 : length (a ++ b ++ c ++ d ++ v ++ guid ++ w ++ n) ≡ 64 = grows (a ++ b ++ c ++ d ++ v ++ guid ++ w) n 60 4 l7 (wide 4 128) in
    let l9 : length (a ++ b ++ c ++ d ++ v ++ guid ++ w ++ n ++ n) ≡ 68 = grows (a ++ b ++ c ++ d ++ v ++ guid ++ w ++ n) n 64 4 l8 (wide 4 128) in
    let l10 : length (a ++ b ++ c ++ d ++ v ++ guid ++ w ++ n ++ n ++ x) ≡ 72 = grows (a ++ b ++ c ++ d ++ v ++ guid ++ w ++ n ++ n) x 68 4 l9 (wide 4 crc) in
    let small : 128 < 256 ^ 4 = omega arith in
    record {
      size = ap length is ∙ l10;
      place_is = number_last 8 place rest a 4 begins.0 l1 p;
      first_is = number_last 8 first rest (a ++ b ++ c) 20 begins.1 l3 f;
      last_is = number_last 8 last rest (a ++ b ++ c ++ d) 28 begins.2 l4 l;
      guid_is = piece_at rest (a ++ b ++ c ++ d ++ v) guid 36 16 begins.3 l5 g;
      entries_is = number_last 8 entries rest (a ++ b ++ c ++ d ++ v ++ guid) 52 begins.4 l6 e;
      count_is = number_last 4 128 rest (a ++ b ++ c ++ d ++ v ++ guid ++ w) 60 begins.5 l7 small;
      size_is = number_last 4 128 rest (a ++ b ++ c ++ d ++ v ++ guid ++ w ++ n) 64 begins.6 l8 small;
      crc_is = number_last 4 crc rest (a ++ b ++ c ++ d ++ v ++ guid ++ w ++ n ++ n) 68 begins.7 l9 k;
    }
