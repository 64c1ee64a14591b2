-- What a device in memory leaves of a failed change is fair, where it leaves the old bytes, the new ones, or zeros.
use Rattle.std.proofs.Common.{◌≡◌, ℕ, zero, suc, ◌+◌, ◌-◌, ◌*◌, ◌/◌, ◌<◌, ◌≤◌, min, List, ◌++◌, length, take, drop, Option, Some, None, refl, sym, ap, subst, ◌∙◌, arith, inl, inr, length-take, length-drop}
use Rattle.std.specs.Prelude.{All, IfSome, replicate}
use Rattle.std.proofs.lemmas.List.{drop_at, drop-drop, drop-take, append-nil, length-replicate, take-replicate, drop-replicate}
use Rattle.std.proofs.lemmas.List.Elements.{All-nil, All-cons}
use Rattle.board_core.specs.declared.torn.Torn.{Torn}
use Rattle.board_core.specs.Torn.{added, torn_records, torn_piece, torn_pieces, padded_piece}
use Rattle.board_core.specs.Flash.{range, spliced}
use Rattle.board_core.specs.Disk.{overlaid}
use Rattle.board_core.proofs.TornRange.{spliced_same}
use Rattle.board_mem.specs.declared.fails.Remains.TheVariants.{Old, New, Fill}
use Rattle.board_mem.specs.declared.mem_flash.MemFlash.{MemFlash}
use Rattle.board_mem.specs.MemFlash.{mem_flash_state, mem_flash_torn, LeavesRange}
use Rattle.record_core.specs.declared.nv.NvForm.{NvForm}
use Rattle.record_core.specs.declared.nv.NvForm.TheVariants.{V1, V2}
use Rattle.record_core.specs.Nv.{record_size}
use Rattle.nvstore_core.specs.Fair.{IsFairAt, IsFairlyLeft, IsFairFlash, IsNothing}
use Rattle.nvstore_core.specs.Pages.{head_of, head_in, cells_in, cell_place, page_form, page_in, current_in}
use Rattle.nvstore_core.proofs.Frames.{range-spliced_within}
use Rattle.nvstore_core.proofs.Pieces.{padded_front, overlaid-range}

-- ---- the pieces of a torn range, one after another

-- the piece that begins so many times 512 bytes behind the first one
abbrev piece_of : ℕ → List ℕ → List ℕ → List ℕ → ℕ → Torn
piece_of at was meant left i = torn_piece (at + 512 * i) (drop (512 * i) was) (drop (512 * i) meant) (drop (512 * i) left)

pieces_all : (P : Torn → Type 0) (count at i : ℕ) (was meant left : List ℕ) → ((j : ℕ) → P (piece_of at was meant left j))
    → All P (torn_pieces count (at + 512 * i) (drop (512 * i) was) (drop (512 * i) meant) (drop (512 * i) left))
pieces_all P zero at i was meant left each = All-nil P
pieces_all P (suc count) at i was meant left each =
    let further : 512 * i + 512 ≡ 512 * (i + 1) = omega arith in
    let there : at + 512 * (i + 1) ≡ (at + 512 * i) + 512 = omega arith in
    let next = λ (xs : List ℕ). let one : drop (512 * (i + 1)) xs ≡ drop 512 (drop (512 * i) xs) = ap (λ (n : ℕ). drop n xs) (sym further) ∙ sym (drop-drop 512 (512 * i) xs) in one in
    let same : torn_pieces count (at + 512 * (i + 1)) (drop (512 * (i + 1)) was) (drop (512 * (i + 1)) meant) (drop (512 * (i + 1)) left)
    ≡ torn_pieces count ((at + 512 * i) + 512) (drop 512 (drop (512 * i) was)) (drop 512 (drop (512 * i) meant)) (drop 512 (drop (512 * i) left)) =
    ap (λ (k : ℕ). torn_pieces count k (drop (512 * (i + 1)) was) (drop (512 * (i + 1)) meant) (drop (512 * (i + 1)) left)) there
    ∙ ap (λ (xs : List ℕ). torn_pieces count ((at + 512 * i) + 512) xs (drop (512 * (i + 1)) meant) (drop (512 * (i + 1)) left)) (next was)
    ∙ ap (λ (xs : List ℕ). torn_pieces count ((at + 512 * i) + 512) (drop 512 (drop (512 * i) was)) xs (drop (512 * (i + 1)) left)) (next meant)
    ∙ ap (torn_pieces count ((at + 512 * i) + 512) (drop 512 (drop (512 * i) was)) (drop 512 (drop (512 * i) meant))) (next left) in
    All-cons P (piece_of at was meant left i) _ (each i) (subst (All P) same (pieces_all P count at (i + 1) was meant left each))

records_all : (P : Torn → Type 0) (at : ℕ) (was meant left : List ℕ) → ((j : ℕ) → P (piece_of at was meant left j)) → All P (torn_records at was meant left)
unfolding torn_records
records_all P at was meant left each =
    let first : at + 512 * 0 ≡ at = omega arith in
    subst (λ (k : ℕ). All P (torn_pieces ((length meant + 511) / 512) k was meant left)) first (pieces_all P ((length meant + 511) / 512) at 0 was meant left each)

-- ---- heads and cells, which begin and end at multiples of their size

-- one that a piece meets lies in it
record Within (at size : ℕ) (torn : Torn) : Type 0 where
  lower : torn.at ≤ at
  upto : at + size ≤ torn.at + torn.len

aligned : (form : NvForm) (start blocks i p : ℕ) (torn : Torn) → torn.at ≡ 64 * start + 512 * i → torn.len ≡ min (64 * blocks - 512 * i) 512 → torn.at < record_size form * p + record_size form
    → record_size form * p < torn.at + torn.len → Within (record_size form * p) (record_size form) torn
aligned V1 start blocks i p torn at len before behind = record { lower = omega (arith, at, len); upto = omega (arith, at, len) }
aligned V2 start blocks i p torn at len before behind = record { lower = omega (arith, at, len); upto = omega (arith, at, len) }

size_some : (form : NvForm) → 0 < record_size form
size_some V1 = omega arith
size_some V2 = omega arith

-- a range of the first bytes of a piece
range-padded : (bytes : List ℕ) (from count : ℕ) → from + count ≤ length bytes → from + count ≤ 512 → range (padded_piece bytes) from count ≡ range bytes from count
range-padded bytes from count within few =
    sym (drop-take from count (padded_piece bytes)) ∙ ap (drop from) (padded_front (from + count) bytes within few) ∙ drop-take from count bytes

-- what was meant
meant_is_fair : (at n i place size : ℕ) (old was meant : List ℕ) → 0 < size → length meant ≡ n → at + n ≤ length old → Within place size (piece_of at was meant meant i)
    → IsFairAt old (spliced old at meant) (piece_of at was meant meant i) place size
meant_is_fair at n i place size old was meant wide long inside within =
    let o = 512 * i in
    let rest : length (drop o meant) ≡ n - o = omega (arith, length-drop o meant, long) in
    let there : at + (place - at) ≡ place = omega (arith, within.lower) in
    let on : o + (place - (at + o)) ≡ place - at = omega (arith, within.lower) in
    let fits : (place - (at + o)) + size ≤ length (drop o meant) = omega (arith, rest, within.lower, within.upto) in
    inr (inl (
      within.lower,
      within.upto,
      ap (λ (k : ℕ). range (spliced old at meant) k size) (sym there)
          ∙ range-spliced_within old at meant (place - at) size (omega (arith, inside)) (omega (arith, wide, long, rest, within.lower, within.upto))
          ∙ ap (λ (k : ℕ). range meant k size) (sym on)
          ∙ ap (take size) (sym (drop-drop (place - (at + o)) o meant))
          ∙ sym (range-padded (drop o meant) (place - (at + o)) size fits (omega (arith, rest, within.lower, within.upto))),
    ))

zeros_are_nothing : (form : NvForm) → IsNothing (replicate (record_size form) 0)
unfolding head_in head_of
zeros_are_nothing V1 = record { no_record = refl; no_head = refl }
zeros_are_nothing V2 = record { no_record = refl; no_head = refl }

-- zeros
zeros_are_fair : (form : NvForm) (at n i place : ℕ) (old was meant : List ℕ) → length meant ≡ n → at + n ≤ length old → Within place (record_size form) (piece_of at was meant (replicate n 0) i)
    → IsFairAt old (spliced old at (replicate n 0)) (piece_of at was meant (replicate n 0) i) place (record_size form)
zeros_are_fair form at n i place old was meant long inside within =
    let size = record_size form in
    let wide = size_some form in
    let o = 512 * i in
    let zeros : List ℕ = replicate n 0 in
    let whole : length zeros ≡ n = length-replicate {A = ℕ} n 0 in
    let rest : length (drop o meant) ≡ n - o = omega (arith, length-drop o meant, long) in
    let there : at + (place - at) ≡ place = omega (arith, within.lower) in
    let stand : range (spliced old at zeros) place size ≡ replicate size 0 =
    ap (λ (k : ℕ). range (spliced old at zeros) k size) (sym there)
    ∙ range-spliced_within old at zeros (place - at) size (omega (arith, inside)) (omega (arith, wide, whole, rest, within.lower, within.upto))
    ∙ ap (take size) (drop-replicate {X = ℕ} (place - at) n 0)
    ∙ take-replicate {X = ℕ} size (n - (place - at)) 0 (omega (arith, wide, rest, within.lower, within.upto)) in
    inr (inr (subst IsNothing (sym stand) (zeros_are_nothing form)))

-- ---- all heads and cells

cell_at : (form : NvForm) → ℕ → ℕ → ℕ
cell_at V1 page cell = 256 * (1 + page) + 1 + cell
cell_at V2 page cell = 64 * (1 + page) + 1 + cell

place_at : (form : NvForm) (page cell : ℕ) → record_size form * cell_at form page cell ≡ 4096 + 4096 * page + cell_place form cell
unfolding cell_at
place_at V1 page cell = omega arith
place_at V2 page cell = omega arith

cells_fair : (old : List ℕ) (records : List Torn) (found : Option ℕ) → ((form : NvForm) (p : ℕ) → IsFairlyLeft old records (record_size form * p) (record_size form))
    → IfSome found (λ page. (cell : ℕ) → cell < cells_in (page_form (page_in 4096 page old))
    → IsFairlyLeft old records (4096 + 4096 * page + cell_place (page_form (page_in 4096 page old)) cell) (record_size (page_form (page_in 4096 page old))))
cells_fair old records None all = tt
cells_fair old records (Some page) all = λ cell below.
    let form = page_form (page_in 4096 page old) in
    subst (λ (k : ℕ). IsFairlyLeft old records k (record_size form)) (place_at form page cell) (all form (cell_at form page cell))

fair_all : (old : List ℕ) (records : List Torn) → ((form : NvForm) (p : ℕ) → IsFairlyLeft old records (record_size form * p) (record_size form)) → IsFairFlash 4096 old records
fair_all old records all = record {
  heads = λ page within.
      let head : 16 * (256 * (1 + page)) ≡ 4096 + 4096 * page = omega arith in
      subst (λ (k : ℕ). IsFairlyLeft old records k 16) head (all V1 (256 * (1 + page)));
  cells = cells_fair old records (current_in 4096 old) all;
}

-- ---- a failed change of a flash in memory

-- the records that it adds
records_added : (old new : MemFlash) (records : List Torn) → mem_flash_torn new ≡ mem_flash_torn old ++ records → added (mem_flash_state old).medium.torn (mem_flash_state new).medium.torn ≡ records
records_added old new records grown =
    append-nil (drop (length (mem_flash_torn old)) (mem_flash_torn new))
    ∙ ap (drop (length (mem_flash_torn old))) grown
    ∙ drop_at (mem_flash_torn old) records (length (mem_flash_torn old)) refl

-- the range is as the bytes of its records say
fair_of : (at n : ℕ) (meant left : List ℕ) (old new : MemFlash) → length meant ≡ n → length left ≡ n → at + n ≤ length old.bytes.items
    → mem_flash_torn new ≡ mem_flash_torn old ++ torn_records at (range old.bytes.items at n) meant left
    → ((form : NvForm) (p i : ℕ) → let torn = piece_of at (range old.bytes.items at n) meant left i in torn.at < record_size form * p + record_size form → record_size form * p < torn.at + torn.len
    → IsFairAt old.bytes.items (spliced old.bytes.items at left) torn (record_size form * p) (record_size form))
    → IsFairFlash 4096 (mem_flash_state old).medium.bytes (added (mem_flash_state old).medium.torn (mem_flash_state new).medium.torn)
fair_of at n meant left old new long fits inside grown each =
    let was = range old.bytes.items at n in
    let records = torn_records at was meant left in
    let over : overlaid old.bytes.items records ≡ spliced old.bytes.items at left =
    overlaid-range at old.bytes.items was meant left (fits ∙ sym long) (omega (arith, fits)) in
    subst (IsFairFlash 4096 old.bytes.items) (sym (records_added old new records grown))
    (fair_all old.bytes.items records (λ form p.
    records_all (λ torn. torn.at < record_size form * p + record_size form → record_size form * p < torn.at + torn.len → IsFairAt old.bytes.items (overlaid old.bytes.items records) torn (record_size form * p) (record_size form))
    at was meant left (λ i before behind.
    subst (λ (l : List ℕ). IsFairAt old.bytes.items l (piece_of at was meant left i) (record_size form * p) (record_size form)) (sym over) (each form p i before behind))))

-- a range of so many blocks of 64 bytes: its piece has these numbers
length-piece : (blocks i : ℕ) (meant : List ℕ) → length meant ≡ 64 * blocks → min (length (drop (512 * i) meant)) 512 ≡ min (64 * blocks - 512 * i) 512
length-piece blocks i meant long = ap (λ (k : ℕ). min k 512) (length-drop (512 * i) meant ∙ ap (λ (k : ℕ). k - 512 * i) long)

pub old_remains : (start blocks : ℕ) (meant : List ℕ) (old new : MemFlash) → length meant ≡ 64 * blocks → 64 * start + 64 * blocks ≤ length old.bytes.items → LeavesRange Old (64 * start) meant old new
    → IsFairFlash 4096 (mem_flash_state old).medium.bytes (added (mem_flash_state old).medium.torn (mem_flash_state new).medium.torn)
old_remains start blocks meant old new long inside left =
    let at = 64 * start in
    let n = length meant in
    let was = range old.bytes.items at n in
    let fits : length was ≡ n = omega (arith, length-take n (drop at old.bytes.items), length-drop at old.bytes.items, long) in
    let same : spliced old.bytes.items at was ≡ old.bytes.items = sym (spliced_same old.bytes.items at n (omega (arith, long))) in
    fair_of at n meant was old new refl fits (omega (arith, long)) left.torn (λ form p i before behind.
    inl (ap (λ (l : List ℕ). range l (record_size form * p) (record_size form)) same))

pub new_remains : (start blocks : ℕ) (meant : List ℕ) (old new : MemFlash) → length meant ≡ 64 * blocks → 64 * start + 64 * blocks ≤ length old.bytes.items → LeavesRange New (64 * start) meant old new
    → IsFairFlash 4096 (mem_flash_state old).medium.bytes (added (mem_flash_state old).medium.torn (mem_flash_state new).medium.torn)
new_remains start blocks meant old new long inside left =
    let at = 64 * start in
    let n = length meant in
    fair_of at n meant meant old new refl refl (omega (arith, long)) left.torn (λ form p i before behind.
    meant_is_fair at n i (record_size form * p) (record_size form) old.bytes.items (range old.bytes.items at n) meant (size_some form) refl (omega (arith, long))
    (aligned form start blocks i p (piece_of at (range old.bytes.items at n) meant meant i) refl (length-piece blocks i meant long) before behind))

pub zero_remains : (start blocks : ℕ) (meant : List ℕ) (old new : MemFlash) → length meant ≡ 64 * blocks → 64 * start + 64 * blocks ≤ length old.bytes.items → LeavesRange (Fill 0) (64 * start) meant old new
    → IsFairFlash 4096 (mem_flash_state old).medium.bytes (added (mem_flash_state old).medium.torn (mem_flash_state new).medium.torn)
zero_remains start blocks meant old new long inside left =
    let at = 64 * start in
    let n = length meant in
    let zeros : List ℕ = replicate n 0 in
    fair_of at n meant zeros old new refl (length-replicate {A = ℕ} n 0) (omega (arith, long)) left.torn (λ form p i before behind.
    zeros_are_fair form at n i (record_size form * p) old.bytes.items (range old.bytes.items at n) meant refl (omega (arith, long))
    (aligned form start blocks i p (piece_of at (range old.bytes.items at n) meant zeros i) refl (length-piece blocks i meant long) before behind))
