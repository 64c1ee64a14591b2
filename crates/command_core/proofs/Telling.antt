-- What a boot came to can be told from its lines: each line ends where its numbers and names do.
use Rattle.std.proofs.Common.{◌≡◌, ℕ, ◌<◌, ◌^◌, ◌==◌, Bool, true, false, List, [], ◌∷◌, ◌++◌, get_or, drop, Option, Some, None, Result, Ok, Err, refl, sym, ap, ◌∙◌, append_assoc, arith}
use Rattle.std.specs.Prelude.{codes, decimal, if◌then◌else◌, IfSome}
use Rattle.fwsel_core.specs.declared.slot.Slot.{Slot}
use Rattle.fwsel_core.specs.declared.slot.Slot.TheVariants.{A, B}
use Rattle.board_core.specs.declared.device.Device.{Device}
use Rattle.board_core.specs.declared.device.Device.TheVariants as device
use Rattle.board_core.specs.declared.device.Drive.{Drive}
use Rattle.board_core.specs.declared.device.Drive.TheVariants as drive
use Rattle.board_core.specs.declared.device.Fault.{Fault}
use Rattle.kernel_core.specs.declared.rules.BootMode.{BootMode}
use Rattle.kernel_core.specs.declared.rules.BootMode.TheVariants as mode
use Rattle.rom_core.specs.declared.fault.MapFault.{MapFault}
use Rattle.rom_core.specs.declared.fault.MapFault.TheVariants as map_fault
use Rattle.rom_core.specs.Faults.{map_fault_number}
use Rattle.text_core.specs.Numbers.{hex_number}
use Rattle.text_core.proofs.Ends.{decimal_ends, hex_ends, long_hex_ends, name_ends}
use Rattle.boot_core.specs.declared.outcome.Hand.{Hand}
use Rattle.boot_core.specs.declared.outcome.Outcome.{Outcome}
use Rattle.boot_core.specs.declared.outcome.Outcome.TheVariants as outcome
use Rattle.command_core.specs.Answers.{line_of, mode_name, slot_name, drive_name, version_name, device_name, requested_digit, bad_flash_text, firmware_line, kernel_line, stored_line, hand_text, reboot_line, outcome_text, text_of}
use Rattle.command_core.specs.Telling.{boot_answer, FitsHand, FitsAnswer, LinesTellApart}

-- ---- names

mode_read : List ℕ → BootMode
mode_read text = if get_or text 5 0 == 110 then mode.Normal else if get_or text 5 0 == 100 then mode.Developer else mode.Recovery

mode_back : (m : BootMode) (xs : List ℕ) → mode_read (mode_name m ++ xs) ≡ m
unfolding mode_read
mode_back mode.Normal xs = refl
mode_back mode.Developer xs = refl
mode_back mode.Recovery xs = refl

slot_read : List ℕ → Option Slot
slot_read text = if get_or text 5 0 == 45 then None else if get_or text 5 0 == 65 then Some A else Some B

slot_back : (s : Option Slot) (xs : List ℕ) → slot_read (slot_name s ++ xs) ≡ s
unfolding slot_read
slot_back None xs = refl
slot_back (Some A) xs = refl
slot_back (Some B) xs = refl

drive_read : List ℕ → Drive
drive_read text = if get_or text 0 0 == 100 then drive.Disk else drive.Stick

drive_back : (d : Drive) (xs : List ℕ) → drive_read (drive_name d ++ xs) ≡ d
unfolding drive_read
drive_back drive.Disk xs = refl
drive_back drive.Stick xs = refl

device_by : ℕ → Device
device_by c =
    if c == 102 then device.Flash
    else if c == 116 then device.Tpm
    else if c == 100 then device.Disk
    else if c == 115 then device.Stick
    else device.Hook

device_back : (d : Device) (xs : List ℕ) → device_by (get_or (device_name d ++ xs) 0 0) ≡ d
unfolding device_by
device_back device.Flash xs = refl
device_back device.Tpm xs = refl
device_back device.Disk xs = refl
device_back device.Stick xs = refl
device_back device.Hook xs = refl

digit_read : List ℕ → Bool
digit_read text = get_or text 0 0 == 49

digit_back : (q : Bool) (xs : List ℕ) → digit_read (requested_digit q ++ xs) ≡ q
unfolding digit_read
digit_back true xs = refl
digit_back false xs = refl

fault_by : ℕ → MapFault
fault_by n =
    if n == 1 then map_fault.FlashSize
    else if n == 2 then map_fault.NoMap
    else if n == 3 then map_fault.MissingArea
    else if n == 4 then map_fault.AreaOutside
    else if n == 5 then map_fault.AreaTooLarge
    else if n == 6 then map_fault.AreaShape
    else map_fault.AreaOverlap

fault_back : (f : MapFault) → (fault_by (map_fault_number f) ≡ f) × (map_fault_number f < 2 ^ 64)
unfolding fault_by
fault_back map_fault.FlashSize = (refl, omega arith)
fault_back map_fault.NoMap = (refl, omega arith)
fault_back map_fault.MissingArea = (refl, omega arith)
fault_back map_fault.AreaOutside = (refl, omega arith)
fault_back map_fault.AreaTooLarge = (refl, omega arith)
fault_back map_fault.AreaShape = (refl, omega arith)
fault_back map_fault.AreaOverlap = (refl, omega arith)

initial_differs : (xs ys : List ℕ) (m n : ℕ) → get_or xs 0 0 ≡ m → get_or ys 0 0 ≡ n → (m ≡ n → ⊥) → xs ≡ ys → ⊥
initial_differs xs ys m n is_m is_n other e = other (sym is_m ∙ ap (λ (text : List ℕ). get_or text 0 0) e ∙ is_n)

version_ends : (a b : Option ℕ) (xs ys : List ℕ) → IfSome a (λ (v : ℕ). v < 2 ^ 32) → IfSome b (λ (v : ℕ). v < 2 ^ 32) → version_name a ++ xs ≡ version_name b ++ ys → (a ≡ b) × (xs ≡ ys)
version_ends None None xs ys fits fits' e = (refl, ap (drop {A = ℕ} 1) e)
version_ends None (Some n) xs ys fits fits' e = absurd (initial_differs _ _ 45 48 refl refl (λ is. omega arith) e)
version_ends (Some m) None xs ys fits fits' e = absurd (initial_differs _ _ 48 45 refl refl (λ is. omega arith) e)
version_ends (Some m) (Some n) xs ys fits fits' e = let split = hex_ends m n xs ys fits fits' e in (ap Some split.0, split.1)

-- ---- lines

line_ends : {K : Type 0} (name : K → List ℕ) (read : List ℕ → K) → ((k : K) (xs : List ℕ) → read (name k ++ xs) ≡ k) → (a b : K) (xs ys : List ℕ)
    → line_of (name a) ++ xs ≡ line_of (name b) ++ ys → (a ≡ b) × (xs ≡ ys)
line_ends name read back a b xs ys e =
    let split = name_ends name read back a b (10 ∷ xs) (10 ∷ ys) (sym (append_assoc (name a) (10 ∷ []) xs) ∙ e ∙ append_assoc (name b) (10 ∷ []) ys) in
    (split.0, ap (drop {A = ℕ} 1) split.1)

firmware_then : (v l : ℕ) (xs : List ℕ) → firmware_line v l ++ xs ≡ codes "firmware " ++ (hex_number 4 v ++ (32 ∷ (decimal l ++ (10 ∷ xs))))
firmware_then v l xs = simp append_assoc

firmware_ends : (v l v' l' : ℕ) (xs ys : List ℕ) → v < 2 ^ 32 → l < 2 ^ 32 → v' < 2 ^ 32 → l' < 2 ^ 32 → firmware_line v l ++ xs ≡ firmware_line v' l' ++ ys → (v ≡ v') × (l ≡ l') × (xs ≡ ys)
firmware_ends v l v' l' xs ys p q p' q' e =
    let one = hex_ends v v' (32 ∷ (decimal l ++ (10 ∷ xs))) (32 ∷ (decimal l' ++ (10 ∷ ys))) p p' (ap (drop {A = ℕ} 9) (sym (firmware_then v l xs) ∙ e ∙ firmware_then v' l' ys)) in
    let two = decimal_ends l l' xs ys 10 10 (omega arith) (omega arith) (omega arith) (omega arith) (ap (drop {A = ℕ} 1) one.1) in
    (one.0, two.0, two.1)

-- the parts of the line of a kernel
kernel_address : Hand → List ℕ → List ℕ
kernel_address h xs = 32 ∷ (hex_number 8 h.load_address ++ (10 ∷ xs))

kernel_length : Hand → List ℕ → List ℕ
kernel_length h xs = 32 ∷ (decimal h.kernel_len ++ kernel_address h xs)

kernel_word : Hand → List ℕ → List ℕ
kernel_word h xs = 32 ∷ (hex_number 4 h.kernel_version ++ kernel_length h xs)

kernel_place : Hand → List ℕ → List ℕ
kernel_place h xs = 32 ∷ (decimal h.partition ++ kernel_word h xs)

spaced : (p a s b c d e l xs : List ℕ) → (p ++ a ++ s ++ b ++ s ++ c ++ s ++ d ++ s ++ e ++ l) ++ xs ≡ p ++ (a ++ (s ++ (b ++ (s ++ (c ++ (s ++ (d ++ (s ++ (e ++ (l ++ xs))))))))))
spaced p a s b c d e l xs = simp append_assoc

kernel_then : (h : Hand) (xs : List ℕ) → kernel_line h ++ xs ≡ codes "kernel " ++ (drive_name h.drive ++ kernel_place h xs)
unfolding kernel_address kernel_length kernel_word kernel_place
kernel_then h xs = spaced (codes "kernel ") (drive_name h.drive) (codes " ") (decimal h.partition) (hex_number 4 h.kernel_version) (decimal h.kernel_len) (hex_number 8 h.load_address) (10 ∷ []) xs

-- the fields of the line of a kernel are the same
record SameKernel (a b : Hand) (xs ys : List ℕ) : Type 0 where
  drive : a.drive ≡ b.drive
  partition : a.partition ≡ b.partition
  kernel_version : a.kernel_version ≡ b.kernel_version
  kernel_len : a.kernel_len ≡ b.kernel_len
  load_address : a.load_address ≡ b.load_address
  rest : xs ≡ ys

kernel_ends : (a b : Hand) (xs ys : List ℕ) → FitsHand a → FitsHand b → kernel_line a ++ xs ≡ kernel_line b ++ ys → SameKernel a b xs ys
unfolding kernel_address kernel_length kernel_word kernel_place
kernel_ends a b xs ys f g e =
    let one = name_ends drive_name drive_read drive_back a.drive b.drive (kernel_place a xs) (kernel_place b ys) (ap (drop {A = ℕ} 7) (sym (kernel_then a xs) ∙ e ∙ kernel_then b ys)) in
    let small : a.partition < 2 ^ 64 = let in_range = f.partition in omega arith in
    let small' : b.partition < 2 ^ 64 = let in_range = g.partition in omega arith in
    let two = decimal_ends a.partition b.partition _ _ 32 32 small small' (omega arith) (omega arith) (ap (drop {A = ℕ} 1) one.1) in
    let three = hex_ends a.kernel_version b.kernel_version (kernel_length a xs) (kernel_length b ys) f.kernel_version g.kernel_version two.1 in
    let short : a.kernel_len < 2 ^ 64 = let in_range = f.kernel_len in omega arith in
    let short' : b.kernel_len < 2 ^ 64 = let in_range = g.kernel_len in omega arith in
    let four = decimal_ends a.kernel_len b.kernel_len _ _ 32 32 short short' (omega arith) (omega arith) (ap (drop {A = ℕ} 1) three.1) in
    let five = long_hex_ends a.load_address b.load_address (10 ∷ xs) (10 ∷ ys) f.load_address g.load_address four.1 in
    record {
      drive = one.0;
      partition = two.0;
      kernel_version = three.0;
      kernel_len = four.0;
      load_address = five.0;
      rest = ap (drop {A = ℕ} 1) five.1;
    }

stored_then : (v w : Option ℕ) (xs : List ℕ) → stored_line v w ++ xs ≡ codes "stored " ++ (version_name v ++ (32 ∷ (version_name w ++ (10 ∷ xs))))
stored_then v w xs = simp append_assoc

stored_ends : (a b : Hand) (xs ys : List ℕ) → FitsHand a → FitsHand b → stored_line a.stored_fw a.stored_kernel ++ xs ≡ stored_line b.stored_fw b.stored_kernel ++ ys
    → (a.stored_fw ≡ b.stored_fw) × (a.stored_kernel ≡ b.stored_kernel)
stored_ends a b xs ys f g e =
    let one = version_ends a.stored_fw b.stored_fw (32 ∷ (version_name a.stored_kernel ++ (10 ∷ xs))) (32 ∷ (version_name b.stored_kernel ++ (10 ∷ ys))) f.stored_fw g.stored_fw
    (ap (drop {A = ℕ} 7) (sym (stored_then a.stored_fw a.stored_kernel xs) ∙ e ∙ stored_then b.stored_fw b.stored_kernel ys)) in
    let two = version_ends a.stored_kernel b.stored_kernel (10 ∷ xs) (10 ∷ ys) f.stored_kernel g.stored_kernel (ap (drop {A = ℕ} 1) one.1) in
    (one.0, two.0)

hand_with : BootMode → Drive → Option Slot → ℕ → ℕ → ℕ → ℕ → ℕ → ℕ → Option ℕ → Option ℕ → Hand
hand_with m d s v l p k n x f g = record {
  mode = m;
  drive = d;
  slot = s;
  fw_version = v;
  fw_len = l;
  partition = p;
  kernel_version = k;
  kernel_len = n;
  load_address = x;
  stored_fw = f;
  stored_kernel = g;
}

same_parts : (a b : Hand) → a.mode ≡ b.mode → a.drive ≡ b.drive → a.slot ≡ b.slot → a.fw_version ≡ b.fw_version → a.fw_len ≡ b.fw_len → a.partition ≡ b.partition
    → a.kernel_version ≡ b.kernel_version → a.kernel_len ≡ b.kernel_len → a.load_address ≡ b.load_address → a.stored_fw ≡ b.stored_fw → a.stored_kernel ≡ b.stored_kernel
    → hand_with a.mode a.drive a.slot a.fw_version a.fw_len a.partition a.kernel_version a.kernel_len a.load_address a.stored_fw a.stored_kernel
    ≡ hand_with b.mode b.drive b.slot b.fw_version b.fw_len b.partition b.kernel_version b.kernel_len b.load_address b.stored_fw b.stored_kernel
same_parts a b mode drive slot fw_version fw_len partition kernel_version kernel_len load_address stored_fw stored_kernel = cc

same_hand : (a b : Hand) → a.mode ≡ b.mode → a.drive ≡ b.drive → a.slot ≡ b.slot → a.fw_version ≡ b.fw_version → a.fw_len ≡ b.fw_len → a.partition ≡ b.partition
    → a.kernel_version ≡ b.kernel_version → a.kernel_len ≡ b.kernel_len → a.load_address ≡ b.load_address → a.stored_fw ≡ b.stored_fw → a.stored_kernel ≡ b.stored_kernel → a ≡ b
unfolding hand_with
same_hand a b mode drive slot fw_version fw_len partition kernel_version kernel_len load_address stored_fw stored_kernel =
    same_parts a b mode drive slot fw_version fw_len partition kernel_version kernel_len load_address stored_fw stored_kernel

joined : (a b c d e f : List ℕ) → a ++ b ++ c ++ d ++ e ++ f ≡ a ++ (b ++ (c ++ (d ++ (e ++ f))))
joined a b c d e f = simp append_assoc

-- the lines of a hand-over, the first one apart
hand_then : (h : Hand) → hand_text h ≡ line_of (mode_name h.mode) ++ (line_of (slot_name h.slot) ++ (firmware_line h.fw_version h.fw_len ++ (kernel_line h ++ (stored_line h.stored_fw h.stored_kernel ++ line_of (codes "hand over")))))
hand_then h = joined (line_of (mode_name h.mode)) (line_of (slot_name h.slot)) (firmware_line h.fw_version h.fw_len) (kernel_line h) (stored_line h.stored_fw h.stored_kernel) (line_of (codes "hand over"))

hand_ends : (a b : Hand) → FitsHand a → FitsHand b → hand_text a ≡ hand_text b → a ≡ b
hand_ends a b f g e =
    let one = line_ends mode_name mode_read mode_back a.mode b.mode _ _ (sym (hand_then a) ∙ e ∙ hand_then b) in
    let two = line_ends slot_name slot_read slot_back a.slot b.slot _ _ one.1 in
    let three = firmware_ends a.fw_version a.fw_len b.fw_version b.fw_len _ _ f.fw_version f.fw_len g.fw_version g.fw_len two.1 in
    let four = kernel_ends a b _ _ f g three.2 in
    let five = stored_ends a b _ _ f g four.rest in
    same_hand a b one.0 four.drive two.0 three.0 three.1 four.partition four.kernel_version four.kernel_len four.load_address five.0 five.1

reboot_then : (r s : ℕ) (q : Bool) → reboot_line r s q ≡ codes "reboot reason " ++ (decimal r ++ (codes " subcode " ++ (decimal s ++ (codes " requested " ++ (requested_digit q ++ 10 ∷ [])))))
reboot_then r s q = simp append_assoc

reboot_ends : (r s r' s' : ℕ) (q q' : Bool) → r < 2 ^ 8 → s < 2 ^ 8 → r' < 2 ^ 8 → s' < 2 ^ 8 → reboot_line r s q ≡ reboot_line r' s' q' → (r ≡ r') × (s ≡ s') × (q ≡ q')
reboot_ends r s r' s' q q' fits_r fits_s fits_r' fits_s' e =
    let one = decimal_ends r r' _ _ 32 32 (omega arith) (omega arith) (omega arith) (omega arith) (ap (drop {A = ℕ} 14) (sym (reboot_then r s q) ∙ e ∙ reboot_then r' s' q')) in
    let two = decimal_ends s s' _ _ 32 32 (omega arith) (omega arith) (omega arith) (omega arith) (ap (drop {A = ℕ} 8) one.1) in
    let three = name_ends requested_digit digit_read digit_back q q' (10 ∷ []) (10 ∷ []) (ap (drop {A = ℕ} 10) two.1) in
    (one.0, two.0, three.0)

screen_then : (r s : ℕ) → outcome_text (outcome.Screen r s) ≡ codes "screen reason " ++ (decimal r ++ (codes " subcode " ++ (decimal s ++ 10 ∷ [])))
screen_then r s = simp append_assoc

screen_ends : (r s r' s' : ℕ) → r < 2 ^ 8 → s < 2 ^ 8 → r' < 2 ^ 8 → s' < 2 ^ 8 → outcome_text (outcome.Screen r s) ≡ outcome_text (outcome.Screen r' s') → (r ≡ r') × (s ≡ s')
screen_ends r s r' s' fits_r fits_s fits_r' fits_s' e =
    let one = decimal_ends r r' _ _ 32 32 (omega arith) (omega arith) (omega arith) (omega arith) (ap (drop {A = ℕ} 14) (sym (screen_then r s) ∙ e ∙ screen_then r' s')) in
    let two = decimal_ends s s' [] [] 10 10 (omega arith) (omega arith) (omega arith) (omega arith) (ap (drop {A = ℕ} 8) one.1) in
    (one.0, two.0)

flash_then : (f : MapFault) → bad_flash_text f ≡ codes "bad flash " ++ (decimal (map_fault_number f) ++ 10 ∷ [])
flash_then f = simp append_assoc

flash_ends : (f f' : MapFault) → bad_flash_text f ≡ bad_flash_text f' → f ≡ f'
flash_ends f f' e =
    let one = decimal_ends (map_fault_number f) (map_fault_number f') [] [] 10 10 (fault_back f).1 (fault_back f').1 (omega arith) (omega arith)
    (ap (drop {A = ℕ} 10) (sym (flash_then f) ∙ e ∙ flash_then f')) in
    sym (fault_back f).0 ∙ ap fault_by one.0 ∙ (fault_back f').0

fault_then : (f : Fault) → text_of (boot_answer (Err f)) ≡ codes "fault " ++ (device_name f.device ++ (codes " done " ++ (decimal f.done ++ 10 ∷ [])))
fault_then f = simp append_assoc

fault_with : Device → ℕ → Fault
fault_with d n = record { device = d; done = n }

same_done : (a b : Fault) → a.device ≡ b.device → a.done ≡ b.done → fault_with a.device a.done ≡ fault_with b.device b.done
same_done a b device done = cc

same_fault : (a b : Fault) → a.device ≡ b.device → a.done ≡ b.done → a ≡ b
unfolding fault_with
same_fault a b device done = same_done a b device done

fault_ends : (a b : Fault) → a.done < 2 ^ 8 → b.done < 2 ^ 8 → text_of (boot_answer (Err a)) ≡ text_of (boot_answer (Err b)) → a ≡ b
fault_ends a b f g e =
    let one = name_ends device_name (λ (text : List ℕ). device_by (get_or text 0 0)) device_back a.device b.device _ _ (ap (drop {A = ℕ} 6) (sym (fault_then a) ∙ e ∙ fault_then b)) in
    let two = decimal_ends a.done b.done [] [] 10 10 (omega arith) (omega arith) (omega arith) (omega arith) (ap (drop {A = ℕ} 6) one.1) in
    same_fault a b one.0 two.0

-- ---- the first byte

initial : Result Outcome Fault → ℕ
initial (Ok (outcome.HandOver hand)) = 109
initial (Ok outcome.DevEnabled) = 100
initial (Ok (outcome.Reboot r s q)) = 114
initial (Ok (outcome.Screen r s)) = 115
initial (Ok (outcome.BadFlash f)) = 98
initial (Err fault) = 102

initial_hand : (m : BootMode) (xs : List ℕ) → get_or ((mode_name m ++ 10 ∷ []) ++ xs) 0 0 ≡ 109
initial_hand mode.Normal xs = refl
initial_hand mode.Developer xs = refl
initial_hand mode.Recovery xs = refl

initial_is : (a : Result Outcome Fault) → get_or (text_of (boot_answer a)) 0 0 ≡ initial a
unfolding initial
initial_is (Ok (outcome.HandOver hand)) = ap (λ (text : List ℕ). get_or text 0 0) (hand_then hand) ∙ initial_hand hand.mode _
initial_is (Ok outcome.DevEnabled) = refl
initial_is (Ok (outcome.Reboot r s q)) = refl
initial_is (Ok (outcome.Screen r s)) = refl
initial_is (Ok (outcome.BadFlash f)) = refl
initial_is (Err fault) = refl

same_initial : (a b : Result Outcome Fault) → text_of (boot_answer a) ≡ text_of (boot_answer b) → initial a ≡ initial b
same_initial a b e = sym (initial_is a) ∙ ap (λ (text : List ℕ). get_or text 0 0) e ∙ initial_is b

-- ---- two answers

no_fault : (o : Outcome) → initial (Ok o) ≡ 102 → ⊥
unfolding initial
no_fault (outcome.HandOver h) is = omega (arith, is)
no_fault outcome.DevEnabled is = omega (arith, is)
no_fault (outcome.Reboot r s q) is = omega (arith, is)
no_fault (outcome.Screen r s) is = omega (arith, is)
no_fault (outcome.BadFlash f) is = omega (arith, is)

by_initial : (a b : Result Outcome Fault) → FitsAnswer a → FitsAnswer b → text_of (boot_answer a) ≡ text_of (boot_answer b) → initial a ≡ initial b → a ≡ b
unfolding initial
by_initial (Ok (outcome.HandOver h)) (Ok (outcome.HandOver h')) f g e i = ap (λ (x : Hand). Ok (outcome.HandOver x)) (hand_ends h h' f g e)
by_initial (Ok outcome.DevEnabled) (Ok outcome.DevEnabled) f g e i = refl
by_initial (Ok (outcome.Reboot r s q)) (Ok (outcome.Reboot r' s' q')) f g e i = let same = reboot_ends r s r' s' q q' f.0 f.1 g.0 g.1 e in let one = same.0 in let two = same.1 in let three = same.2 in cc
by_initial (Ok (outcome.Screen r s)) (Ok (outcome.Screen r' s')) f g e i = let same = screen_ends r s r' s' f.0 f.1 g.0 g.1 e in let one = same.0 in let two = same.1 in cc
by_initial (Ok (outcome.BadFlash m)) (Ok (outcome.BadFlash m')) f g e i = ap (λ (x : MapFault). Ok (outcome.BadFlash x)) (flash_ends m m' e)
by_initial (Err x) (Err y) f g e i = ap Err (fault_ends x y f g e)
by_initial (Err x) (Ok o) f g e i = absurd (no_fault o (sym i))
by_initial a b f g e i = absurd (omega arith)

pub lines_tell_apart : LinesTellApart
lines_tell_apart a b f g e = by_initial a b f g e (same_initial a b e)
