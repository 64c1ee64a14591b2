-- The header with the CRC of the one with none, and zeros behind it.
use Rattle.std.proofs.Common.{◌≡◌, ℕ, List, ◌++◌, ◌-◌, length, replicate, ap, ◌∙◌, arith}
use Rattle.wire_core.specs.Crc32.{crc32_of}
use Rattle.gpt_core.specs.Format.{header_with, header_rest, header_sector}
use Rattle.gpt_core.specs.Heads.{table_with}
use Rattle.gpt_core.proofs.header.header_sector.Goals as goal

pub returns : goal.returns
unfolding header_sector
returns c =
    let rest : List ℕ = header_rest c.args.side c.args.sectors (table_with c.args.head.now c.args.entries.now) in
    let zero_crc : c.header_with.result ≡ header_with 0 rest = c.header_with.ensures.bytes ∙ ap (header_with 0) c.header_rest-rest.ensures.bytes in
    let crc : c.crc32-crc.result ≡ crc32_of (header_with 0 rest) = c.crc32-crc.ensures ∙ ap crc32_of (c.as_slice.ensures ∙ zero_crc) in
    let whole : c.header_with-2.result ≡ header_with (crc32_of (header_with 0 rest)) rest =
    c.header_with-2.ensures.bytes ∙ ap (header_with c.crc32-crc.result) c.header_rest-rest.ensures.bytes ∙ ap (λ n. header_with n rest) crc in
    let room : 512 - length c.header_with-2.result ≡ 420 = omega (arith, c.header_with-2.ensures.size) in
    c.sector.ensures ∙ ap (λ n. c.header_with-2.result ++ replicate n 0) room ∙ ap (λ (bytes : List ℕ). bytes ++ replicate 420 0) whole
