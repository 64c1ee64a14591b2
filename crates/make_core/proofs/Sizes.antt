-- How many bytes each part of an image has.
use Rattle.std.proofs.Common.{◌≡◌, ℕ, ◌+◌, ◌-◌, ◌*◌, ◌≤◌, List, [], ◌∷◌, ◌++◌, length, refl, arith, length-append}
use Rattle.std.specs.Prelude.{replicate, codes}
use Rattle.std.proofs.lemmas.List.{length-replicate}
use Rattle.sha2.specs.Sha256.{sha256}
use Rattle.sha2.specs.Sha512.{sha512}
use Rattle.sha2.proofs.Facts256.{length-sha256}
use Rattle.sha2.proofs.Facts512.{length-sha512}
use Rattle.make_core.specs.declared.layout.SlotTags.{SlotTags}
use Rattle.make_core.specs.Fill.{fill}
use Rattle.make_core.specs.Firmware.{words, keyblock_head, signed_keyblock, keyblock, preamble_head, signed_preamble, preamble, vblock, body, body_size}
use Rattle.make_core.specs.Layout.{name_field, area_row, map_head, flash_map, gbb_head, hwid, packed_key, gbb}
use Rattle.make_core.proofs.Fills.{length-fill_from}

pub length-words : (numbers : List ℕ) → length (words numbers) ≡ 4 * length numbers
unfolding words
length-words [] = refl
length-words (x ∷ xs) = omega (arith, length-words xs)

-- ---- a slot

pub length-signed_keyblock : (number flags key_tag : ℕ) → length (signed_keyblock number flags key_tag) ≡ 632
unfolding signed_keyblock
length-signed_keyblock number flags key_tag =
    let head = words (keyblock_head flags) in
    let long : length head ≡ 104 = length-words (keyblock_head flags) in
    omega (arith, long, length-append (codes "CHROMEOS" ++ head) (fill number key_tag 520), length-append (codes "CHROMEOS") head, length-fill_from number key_tag 0 520)

pub length-keyblock : (number flags key_tag tag : ℕ) → length (keyblock number flags key_tag tag) ≡ 952
unfolding keyblock
length-keyblock number flags key_tag tag =
    let signed = signed_keyblock number flags key_tag in
    omega (arith, length-append (signed ++ sha512 signed) (fill number tag 256), length-append signed (sha512 signed), length-signed_keyblock number flags key_tag, length-sha512 signed, length-fill_from number tag 0 256)

pub length-signed_preamble : (number body_signature : ℕ) → length (signed_preamble number body_signature) ≡ 884
unfolding signed_preamble
length-signed_preamble number body_signature =
    let head = words (preamble_head number (body_size number)) in
    let long : length head ≡ 108 = length-words (preamble_head number (body_size number)) in
    omega (arith, long, length-append (head ++ fill number 4 520) (fill number body_signature 256), length-append head (fill number 4 520), length-fill_from number 4 0 520, length-fill_from number body_signature 0 256)

pub length-preamble : (number body_signature tag : ℕ) → length (preamble number body_signature tag) ≡ 1140
unfolding preamble
length-preamble number body_signature tag =
    omega (arith, length-append (signed_preamble number body_signature) (fill number tag 256), length-signed_preamble number body_signature, length-fill_from number tag 0 256)

pub length-vblock : (number : ℕ) (tags : SlotTags) → length (vblock number tags) ≡ 2092
unfolding vblock
length-vblock number tags =
    omega (arith, length-append (keyblock number 7 3 tags.keyblock) (preamble number tags.body_signature tags.preamble), length-keyblock number 7 3 tags.keyblock, length-preamble number tags.body_signature tags.preamble)

pub length-body : (number : ℕ) (tags : SlotTags) → length (body number tags) ≡ body_size number
unfolding body
length-body number tags = length-fill_from number tags.body 0 (body_size number)

-- ---- the map and the GBB

zeros : (n : ℕ) → length {A = ℕ} (replicate n 0) ≡ n
zeros n = length-replicate {A = ℕ} n 0

pub length-name_field : (text : List ℕ) → length text ≤ 32 → length (name_field text) ≡ 32
length-name_field text fits = omega (arith, length-append text (replicate (32 - length text) 0), zeros (32 - length text))

pub length-area_row : (at size : ℕ) (name : List ℕ) → length name ≤ 32 → length (area_row at size name) ≡ 42
length-area_row at size name fits =
    let numbers = words (at ∷ size ∷ []) in
    let long : length numbers ≡ 8 = length-words (at ∷ size ∷ []) in
    omega (arith, long, length-append (numbers ++ name_field name) (replicate 2 0), length-append numbers (name_field name), length-name_field name fits)

pub length-packed_key : (number tag : ℕ) → length (packed_key number tag) ≡ 552
length-packed_key number tag =
    let head = words (32 ∷ 0 ∷ 520 ∷ 0 ∷ 4 ∷ 0 ∷ 1 ∷ 0 ∷ []) in
    let long : length head ≡ 32 = length-words (32 ∷ 0 ∷ 520 ∷ 0 ∷ 4 ∷ 0 ∷ 1 ∷ 0 ∷ []) in
    omega (arith, long, length-append head (fill number tag 520), length-fill_from number tag 0 520)

-- a list of so many bytes, made of two
both : (a b : List ℕ) (m n : ℕ) → length a ≡ m → length b ≡ n → length (a ++ b) ≡ m + n
both a b m n long_a long_b = omega (arith, long_a, long_b, length-append a b)

pub length-map_head : length map_head ≡ 56
length-map_head =
    let numbers = words (0 ∷ 0 ∷ 1048576 ∷ []) in
    let name = name_field (codes "FMAP") in
    both (codes "__FMAP__" ++ (1 ∷ 1 ∷ []) ++ numbers ++ name) (6 ∷ 0 ∷ []) 54 2
    (both (codes "__FMAP__" ++ (1 ∷ 1 ∷ []) ++ numbers) name 22 32 (both (codes "__FMAP__" ++ (1 ∷ 1 ∷ [])) numbers 10 12 refl (length-words (0 ∷ 0 ∷ 1048576 ∷ []))) refl) refl

pub length-flash_map : length flash_map ≡ 308
unfolding flash_map
length-flash_map =
    let gbb_row = area_row 8192 16384 (codes "GBB") in
    let nvram_row = area_row 32768 8192 (codes "RW_NVRAM") in
    let vblock_a = area_row 65536 65536 (codes "VBLOCK_A") in
    let main_a = area_row 131072 131072 (codes "FW_MAIN_A") in
    let vblock_b = area_row 262144 65536 (codes "VBLOCK_B") in
    let main_b = area_row 327680 131072 (codes "FW_MAIN_B") in
    let to_gbb_row : length (map_head ++ gbb_row) ≡ 98 = both (map_head) gbb_row 56 42 length-map_head (length-area_row 8192 16384 (codes "GBB") (omega arith)) in
    let to_nvram_row : length (map_head ++ gbb_row ++ nvram_row) ≡ 140 = both (map_head ++ gbb_row) nvram_row 98 42 to_gbb_row (length-area_row 32768 8192 (codes "RW_NVRAM") (omega arith)) in
    let to_vblock_a : length (map_head ++ gbb_row ++ nvram_row ++ vblock_a) ≡ 182 = both (map_head ++ gbb_row ++ nvram_row) vblock_a 140 42 to_nvram_row (length-area_row 65536 65536 (codes "VBLOCK_A") (omega arith)) in
    let to_main_a : length (map_head ++ gbb_row ++ nvram_row ++ vblock_a ++ main_a) ≡ 224 = both (map_head ++ gbb_row ++ nvram_row ++ vblock_a) main_a 182 42 to_vblock_a (length-area_row 131072 131072 (codes "FW_MAIN_A") (omega arith)) in
    let to_vblock_b : length (map_head ++ gbb_row ++ nvram_row ++ vblock_a ++ main_a ++ vblock_b) ≡ 266 = both (map_head ++ gbb_row ++ nvram_row ++ vblock_a ++ main_a) vblock_b 224 42 to_main_a (length-area_row 262144 65536 (codes "VBLOCK_B") (omega arith)) in
    let to_main_b : length (map_head ++ gbb_row ++ nvram_row ++ vblock_a ++ main_a ++ vblock_b ++ main_b) ≡ 308 = both (map_head ++ gbb_row ++ nvram_row ++ vblock_a ++ main_a ++ vblock_b) main_b 266 42 to_vblock_b (length-area_row 327680 131072 (codes "FW_MAIN_B") (omega arith)) in
    to_main_b

pub length-gbb_head : length gbb_head ≡ 128
length-gbb_head =
    let numbers = words (128 ∷ 0 ∷ 128 ∷ 16 ∷ 144 ∷ 552 ∷ 1248 ∷ 0 ∷ 696 ∷ 552 ∷ []) in
    let front = codes "$GBB" ++ (1 ∷ 0 ∷ 2 ∷ 0 ∷ []) in
    both (front ++ numbers ++ sha256 hwid) (replicate 48 0) 80 48
    (both (front ++ numbers) (sha256 hwid) 48 32 (both front numbers 8 40 refl (length-words (128 ∷ 0 ∷ 128 ∷ 16 ∷ 144 ∷ 552 ∷ 1248 ∷ 0 ∷ 696 ∷ 552 ∷ []))) (length-sha256 hwid)) (zeros 48)

pub length-gbb : (number : ℕ) → length (gbb number) ≡ 1248
unfolding gbb
length-gbb number =
    let nuls : List ℕ = 0 ∷ 0 ∷ [] in
    both (gbb_head ++ hwid ++ nuls ++ packed_key number 1) (packed_key number 2) 696 552
    (both (gbb_head ++ hwid ++ nuls) (packed_key number 1) 144 552 (both (gbb_head ++ hwid) nuls 142 2 (both gbb_head hwid 128 14 length-gbb_head refl) refl) (length-packed_key number 1))
    (length-packed_key number 2)
