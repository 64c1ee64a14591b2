-- How many bytes the parts of a kernel have, and entries that are put one after another.
use Rattle.std.proofs.Common.{◌≡◌, ℕ, ◌+◌, ◌-◌, List, [], ◌∷◌, ◌++◌, length, get_or, take, refl, sym, ap, ◌∙◌, arith, length-append, ◌<◌, ◌≤◌}
use Rattle.std.specs.Prelude.{All}
use Rattle.std.proofs.lemmas.List.Elements.{All-from_recursion}
use Rattle.std.proofs.lemmas.List.{take_more}
use Rattle.gpt_core.specs.declared.entry.Entry.{Entry}
use Rattle.gpt_core.specs.Entries.{with_entry}
use Rattle.make_core.specs.declared.drive_layout.EntryRow.{EntryRow}
use Rattle.make_core.specs.Firmware.{words}
use Rattle.make_core.specs.Fill.{fill}
use Rattle.make_core.specs.Kernel.{kernel_preamble_head, signed_kernel_preamble, kernel_body_size}
use Rattle.make_core.specs.Table.{entry_of, with_rows, IsRow, disk_rows, stick_rows}
use Rattle.make_core.proofs.Fills.{length-fill_from}
use Rattle.make_core.proofs.Sizes.{length-words}

pub length-signed_kernel_preamble : (number version body_signature : ℕ) → length (signed_kernel_preamble number version body_signature) ≡ 372
unfolding signed_kernel_preamble
length-signed_kernel_preamble number version body_signature =
    let head = words (kernel_preamble_head version (kernel_body_size number)) in
    let long : length head ≡ 116 = length-words (kernel_preamble_head version (kernel_body_size number)) in
    omega (arith, long, length-append head (fill number body_signature 256), length-fill_from number body_signature 0 256)

-- one row more
with_rows-more : (number tag : ℕ) (rows : List EntryRow) (r : EntryRow) (entries : List ℕ)
    → with_entry (with_rows number tag rows entries) (r.index - 1) (entry_of number tag r) ≡ with_rows number tag (rows ++ r ∷ []) entries
with_rows-more number tag [] r entries = refl
with_rows-more number tag (first ∷ rows) r entries = with_rows-more number tag rows r (with_entry entries (first.index - 1) (entry_of number tag first))

pub rows_next : (number tag k : ℕ) (rows : List EntryRow) (d : EntryRow) (made : Entry) (old entries : List ℕ) (at : ℕ) → k < length rows → old ≡ with_rows number tag (take k rows) entries
    → made ≡ entry_of number tag (get_or rows k d) → at ≡ (get_or rows k d).index - 1 → with_entry old at made ≡ with_rows number tag (take (k + 1) rows) entries
rows_next number tag k rows d made old entries at lt so_far is place =
    let r = get_or rows k d in
    ap (λ (e : List ℕ). with_entry e at made) so_far
    ∙ ap (λ (n : ℕ). with_entry (with_rows number tag (take k rows) entries) n made) place
    ∙ ap (λ (e : Entry). with_entry (with_rows number tag (take k rows) entries) (r.index - 1) e) is
    ∙ with_rows-more number tag (take k rows) r entries
    ∙ ap (λ (l : List EntryRow). with_rows number tag l entries) (sym (take_more rows k d lt))

-- ---- rows that can stand

is_row : (tag : ℕ) (r : EntryRow) → 1 ≤ r.index → r.index ≤ 128 → tag + r.index < 256 → 1 ≤ r.size → IsRow tag r
is_row tag r least most tags size = record { least = least; most = most; tags = tags; size = size }

pub disk_rows-fit : All (IsRow 40) disk_rows
disk_rows-fit =
    All-from_recursion (IsRow 40) disk_rows (
      is_row 40 _ (omega arith) (omega arith) (omega arith) (omega arith),
      (
        is_row 40 _ (omega arith) (omega arith) (omega arith) (omega arith),
        (
          is_row 40 _ (omega arith) (omega arith) (omega arith) (omega arith),
          (
            is_row 40 _ (omega arith) (omega arith) (omega arith) (omega arith),
            (
              is_row 40 _ (omega arith) (omega arith) (omega arith) (omega arith),
              (
                is_row 40 _ (omega arith) (omega arith) (omega arith) (omega arith),
                (
                  is_row 40 _ (omega arith) (omega arith) (omega arith) (omega arith),
                  (
                    is_row 40 _ (omega arith) (omega arith) (omega arith) (omega arith),
                    (
                      is_row 40 _ (omega arith) (omega arith) (omega arith) (omega arith),
                      (
                        is_row 40 _ (omega arith) (omega arith) (omega arith) (omega arith),
                        (
                          is_row 40 _ (omega arith) (omega arith) (omega arith) (omega arith),
                          (
                            is_row 40 _ (omega arith) (omega arith) (omega arith) (omega arith),
                            tt,
                          ),
                        ),
                      ),
                    ),
                  ),
                ),
              ),
            ),
          ),
        ),
      ),
    )

pub stick_rows-fit : All (IsRow 80) stick_rows
stick_rows-fit = All-from_recursion (IsRow 80) stick_rows (is_row 80 _ (omega arith) (omega arith) (omega arith) (omega arith), tt)
