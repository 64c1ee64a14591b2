-- The definitions of CRC-8 and of CRC-32 against values from outside.
use Rattle.std.proofs.Common.{◌≡◌, refl, ◌∷◌, [], ◌++◌}
use Rattle.std.specs.Prelude.{codes, replicate}
use Rattle.wire_core.specs.Crc8.{remainder, crc8_of}
use Rattle.wire_core.specs.Crc32.{low_bits, crc32_divisor, crc32_of}

-- the check value of the catalogues of checksums
check_value : crc8_of (codes "123456789") ≡ 0xf4
unfolding crc8_of remainder
check_value = refl

-- the head of a page of nvdata at generation 0
page_head : crc8_of (codes "NVPG" ++ replicate 11 0) ≡ 0x77
unfolding crc8_of remainder
page_head = refl

-- a firmware space with both versions 0x00010001
firmware_space : crc8_of (0x02 ∷ 0x00 ∷ 0x01 ∷ 0x00 ∷ 0x01 ∷ 0x00 ∷ 0x00 ∷ 0x00 ∷ 0x00 ∷ []) ≡ 0x4f
unfolding crc8_of remainder
firmware_space = refl

-- the check value of the catalogues of checksums
reflected_check_value : crc32_of (codes "123456789") ≡ 0xcbf43926
unfolding crc32_of crc32_divisor low_bits remainder
reflected_check_value = refl

-- four zero bytes
reflected_zeros : crc32_of (replicate 4 0) ≡ 0x2144df1c
unfolding crc32_of crc32_divisor low_bits remainder
reflected_zeros = refl
