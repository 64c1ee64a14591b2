-- Long division over bits: steps one after the other, over a longer dividend, and over a sum of two dividends.
use Rattle.std.proofs.Common.{◌≡◌, ℕ, zero, suc, ◌+◌, ◌%◌, ◌<◌, ◌≤◌, List, [], ◌∷◌, ◌++◌, length, replicate, refl, ap, sym, ◌∙◌, arith, ◌==◌, if◌then◌else◌}
use Rattle.std.proofs.lemmas.Bool.{cond-false, ne_eqb}
use Rattle.wire_core.specs.Crc8.{less, remainder}

-- each number is 0 or 1
abbrev pub AreBits : List ℕ → Type 0
AreBits [] = Unit {0}
AreBits (b ∷ bs) = (b < 2) × AreBits bs

pub AreBits-less : (bits divisor : List ℕ) → AreBits bits → AreBits (less bits divisor)
AreBits-less bits [] h = h
AreBits-less [] (d ∷ ds) h = tt
AreBits-less (b ∷ bs) (d ∷ ds) h = (omega arith, AreBits-less bs ds h.1)

pub AreBits-append : (bits more : List ℕ) → AreBits bits → AreBits more → AreBits (bits ++ more)
AreBits-append [] more f g = g
AreBits-append (b ∷ bs) more f g = (f.0, AreBits-append bs more f.1 g)

-- ---- differences

pub less-swap : (bits ds es : List ℕ) → less (less bits ds) es ≡ less (less bits es) ds
less-swap bits [] es = refl
less-swap bits (d ∷ ds) [] = refl
less-swap [] (d ∷ ds) (e ∷ es) = refl
less-swap (b ∷ bs) (d ∷ ds) (e ∷ es) =
    let first : ((b + d) % 2 + e) % 2 ≡ ((b + e) % 2 + d) % 2 = omega arith in
    let rest : less (less bs ds) es ≡ less (less bs es) ds = less-swap bs ds es in
    cc

pub less-nil : (ds : List ℕ) → less [] ds ≡ []
less-nil [] = refl
less-nil (d ∷ ds) = refl

pub less-append : (bits more ds : List ℕ) → length ds ≤ length bits → less (bits ++ more) ds ≡ less bits ds ++ more
less-append bits more [] h = refl
less-append [] more (d ∷ ds) h = absurd (omega arith)
less-append (b ∷ bs) more (d ∷ ds) h =
    let within : length ds ≤ length bs = omega arith in
    ap (λ t. (b + d) % 2 ∷ t) (less-append bs more ds within)

pub length-less : (bits ds : List ℕ) → length ds ≤ length bits → length (less bits ds) ≡ length bits
length-less bits [] h = refl
length-less [] (d ∷ ds) h = absurd (omega arith)
length-less (b ∷ bs) (d ∷ ds) h =
    let within : length ds ≤ length bs = omega arith in
    ap (λ n. suc n) (length-less bs ds within)

-- to take bits away from as many zeros leaves the bits
pub zeros-less : (bits : List ℕ) → AreBits bits → less (replicate (length bits) 0) bits ≡ bits
zeros-less [] h = refl
zeros-less (b ∷ bs) h =
    let first : (0 + b) % 2 ≡ b = omega arith in
    let rest : less (replicate (length bs) 0) bs ≡ bs = zeros-less bs h.1 in
    cc

-- to take zeros away changes nothing
pub less-zeros : (bits : List ℕ) → AreBits bits → less bits (replicate (length bits) 0) ≡ bits
less-zeros [] h = refl
less-zeros (b ∷ bs) h =
    let first : (b + 0) % 2 ≡ b = omega arith in
    let rest : less bs (replicate (length bs) 0) ≡ bs = less-zeros bs h.1 in
    cc

-- two lists of bits, one after the other, are the difference of each with zeros in the place of the other
pub less-apart : (front back : List ℕ) → AreBits front → AreBits back → less (front ++ replicate (length back) 0) (replicate (length front) 0 ++ back) ≡ front ++ back
less-apart [] back f g = zeros-less back g
less-apart (b ∷ bs) back f g =
    let first : (b + 0) % 2 ≡ b = omega arith in
    let rest : less (bs ++ replicate (length back) 0) (replicate (length bs) 0 ++ back) ≡ bs ++ back = less-apart bs back f.1 g in
    cc

-- ---- steps of the division

pub remainder-nil : (divisor : List ℕ) (steps : ℕ) → remainder divisor steps [] ≡ []
unfolding remainder
remainder-nil divisor zero = refl
remainder-nil divisor (suc steps) = refl

-- a step where the highest coefficient is not 0
remainder-one : (divisor : List ℕ) (steps b : ℕ) (bs : List ℕ) → 0 < b → remainder divisor (suc steps) (b ∷ bs) ≡ remainder divisor steps (less bs divisor)
unfolding remainder
remainder-one divisor steps b bs h = ap (remainder divisor steps) (cond-false (b == 0) bs (less bs divisor) (ne_eqb b 0 (λ e. omega arith)))

-- some steps, and then some more
pub remainder-add : (divisor : List ℕ) (k n : ℕ) (bits : List ℕ) → remainder divisor (k + n) bits ≡ remainder divisor n (remainder divisor k bits)
unfolding remainder
remainder-add divisor zero n bits =
    let e : 0 + n ≡ n = omega arith in
    ap (λ m. remainder divisor m bits) e
remainder-add divisor (suc k) n [] =
    let e : suc k + n ≡ suc (k + n) = omega arith in
    rw e (sym (remainder-nil divisor n))
remainder-add divisor (suc k) n (b ∷ bs) =
    let e : suc k + n ≡ suc (k + n) = omega arith in
    ap (λ m. remainder divisor m (b ∷ bs)) e ∙ remainder-add divisor k n (if b == 0 then bs else less bs divisor)

-- steps that end within the first part leave the second as it is
pub remainder-append : (divisor : List ℕ) (n : ℕ) (bits more : List ℕ) → n + length divisor ≤ length bits → remainder divisor n (bits ++ more) ≡ remainder divisor n bits ++ more
unfolding remainder
remainder-append divisor zero bits more h = refl
remainder-append divisor (suc n) [] more h = absurd (omega arith)
remainder-append divisor (suc n) (zero ∷ bs) more h =
    let within : n + length divisor ≤ length bs = omega arith in
    remainder-append divisor n bs more within
remainder-append divisor (suc n) (suc b ∷ bs) more h =
    let long : length divisor ≤ length bs = omega arith in
    let within : n + length divisor ≤ length (less bs divisor) = omega (arith, length-less bs divisor long) in
    remainder-one divisor n (suc b) (bs ++ more) (omega arith)
    ∙ ap (remainder divisor n) (less-append bs more divisor long)
    ∙ remainder-append divisor n (less bs divisor) more within
    ∙ ap (λ t. t ++ more) (sym (remainder-one divisor n (suc b) bs (omega arith)))

-- what is taken away behind the first n bits is taken away from what n steps leave
pub remainder-less : (divisor : List ℕ) (n : ℕ) (bits back : List ℕ) → AreBits bits → remainder divisor n (less bits (replicate n 0 ++ back)) ≡ less (remainder divisor n bits) back
unfolding remainder
remainder-less divisor zero bits back h = refl
remainder-less divisor (suc n) [] back h = rw less-nil refl
remainder-less divisor (suc n) (zero ∷ bs) back h = remainder-less divisor n bs back h.1
remainder-less divisor (suc n) (suc zero ∷ bs) back h =
    ap (remainder divisor n) (less-swap bs (replicate n 0 ++ back) divisor) ∙ remainder-less divisor n (less bs divisor) back (AreBits-less bs divisor h.1)
remainder-less divisor (suc n) (suc (suc b) ∷ bs) back h = absurd (omega (arith, h.0))
