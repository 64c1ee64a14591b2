-- A table of four lines, by what their tests are.
use Rattle.std.proofs.Common.{◌≡◌, Bool, true, false, cond, Option, Some, None, ap, ◌∙◌}

abbrev pub of_tests : {Fault : Type 0} (first second third fourth : Fault) (a b c d : Bool) → Option Fault
of_tests first second third fourth a b c d = cond a (Some first) (cond b (Some second) (cond c (Some third) (cond d (Some fourth) None)))

pub by_first : {Fault : Type 0} (first second third fourth : Fault) (a b c d : Bool) → a ≡ true
    → of_tests first second third fourth a b c d ≡ Some first
by_first first second third fourth a b c d e = ap (λ t. of_tests first second third fourth t b c d) e

pub by_second : {Fault : Type 0} (first second third fourth : Fault) (a b c d : Bool) → a ≡ false → b ≡ true
    → of_tests first second third fourth a b c d ≡ Some second
by_second first second third fourth a b c d e f = ap (λ t. of_tests first second third fourth t b c d) e
    ∙ ap (λ t. of_tests first second third fourth false t c d) f

pub by_third : {Fault : Type 0} (first second third fourth : Fault) (a b c d : Bool) → a ≡ false → b ≡ false → c ≡ true
    → of_tests first second third fourth a b c d ≡ Some third
by_third first second third fourth a b c d e f h =
    ap (λ t. of_tests first second third fourth t b c d) e ∙ ap (λ t. of_tests first second third fourth false t c d) f
    ∙ ap (λ t. of_tests first second third fourth false false t d) h

-- the first three tests do not hold, so the last one decides
pub by_last : {Fault : Type 0} (first second third fourth : Fault) (a b c d d' : Bool) → a ≡ false → b ≡ false → c ≡ false → d ≡ d'
    → of_tests first second third fourth a b c d ≡ cond d' (Some fourth) None
by_last first second third fourth a b c d d' e f h k =
    ap (λ t. of_tests first second third fourth t b c d) e ∙ ap (λ t. of_tests first second third fourth false t c d) f
    ∙ ap (λ t. of_tests first second third fourth false false t d) h
    ∙ ap (λ t. of_tests first second third fourth false false false t) k
