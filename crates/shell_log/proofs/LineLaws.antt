-- A line of a log says the entry whose line it is, and no other.
use Rattle.std.proofs.Common.{◌≡◌, ℕ, ◌<◌, ◌≤◌, ◌++◌, ◌&&◌, Bool, true, false, cond, List, [], ◌∷◌, length, Option}
use Rattle.std.proofs.Common.{Some, None, nat_le, codes, refl, ap, sym, subst, ◌∙◌, arith}
use Rattle.std.specs.Fmt.{decimal}
use Rattle.std.specs.Option.{option_and_then}
use Rattle.std.specs.Str.{bytes_eq}
use Rattle.std.proofs.lemmas.Bool.{le-leb, leb-true}
use Rattle.std.proofs.lemmas.Slice.Eq.{bytes_eq-Decides}
use Rattle.text_base.specs.Numbers.{canonical_of}
use Rattle.text_base.proofs.NumbersLemmas.{canonical_of-decimal, canonical_of-Some, decimal-canonical_of}
use Rattle.text_base.proofs.NumbersLemmas.{no_space-decimal}
use Rattle.shell_log.specs.declared.entry.Entry.{Entry}
use Rattle.shell_log.specs.declared.entry.Entry.TheVariants.{Arrival, Opportunity, Departure, Drop}
use Rattle.shell_log.specs.Entries.{IsEntry, IsShort}
use Rattle.text_base.specs.Words.{first_word, other_words}
use Rattle.text_base.proofs.WordsLemmas.{spaced_again, first_word-spaced, other_words-spaced}
use Rattle.shell_log.specs.LogText.{line_of}
use Rattle.shell_log.specs.Reading.{is_between, if_fits, arrival_of, opportunity_of, departure_of, drop_of}
use Rattle.shell_log.specs.Reading.{entry_by_sign, entry_of}

both : (a b : Bool) → (a && b) ≡ true → (a ≡ true) × (b ≡ true)
both true b e = (refl, e)
both false b e = cc

fits : (b : Bool) (e : Entry) → b ≡ true → if_fits b e ≡ Some e
fits b e t = ap (λ x. cond x (Some e) None) t

between : (low high n : ℕ) → low ≤ n → n ≤ high → is_between low high n ≡ true
between low high n a b = ap (λ x. x && nat_le n high) (le-leb low n a) ∙ le-leb n high b

-- a moment, a space, and the sign with what follows
at_moment : (moment : ℕ) (rest : List ℕ) → IsShort moment
    → entry_of (decimal moment ++ 32 ∷ rest) ≡ entry_by_sign (first_word rest) moment (other_words rest)
at_moment moment rest short =
    let none = no_space-decimal moment (omega arith) in
    let line = decimal moment ++ 32 ∷ rest in
    ap (λ (w : List ℕ). option_and_then
    (λ (m : ℕ). entry_by_sign (first_word (other_words line)) m (other_words (other_words line)))
    (canonical_of w)) (first_word-spaced (decimal moment) rest none)
    ∙ ap (λ (o : Option ℕ). option_and_then
    (λ (m : ℕ). entry_by_sign (first_word (other_words line)) m (other_words (other_words line))) o)
    (canonical_of-decimal moment (omega arith))
    ∙ ap (λ (w : List ℕ). entry_by_sign (first_word w) moment (other_words w))
    (other_words-spaced (decimal moment) rest none)

one_number : (f : ℕ → Option Entry) (n : ℕ) (e : Entry) → IsShort n → f n ≡ Some e
    → option_and_then f (canonical_of (decimal n)) ≡ Some e
one_number f n e short is = ap (option_and_then f) (canonical_of-decimal n (omega arith)) ∙ is

two_numbers : (f : ℕ → ℕ → Option Entry) (m n : ℕ) (e : Entry) → IsShort m → IsShort n → f m n ≡ Some e
    → option_and_then (λ x. option_and_then (f x) (canonical_of (other_words (decimal m ++ 32 ∷ decimal n))))
    (canonical_of (first_word (decimal m ++ 32 ∷ decimal n))) ≡ Some e
two_numbers f m n e short short' is =
    let none = no_space-decimal m (omega arith) in
    let second : canonical_of (other_words (decimal m ++ 32 ∷ decimal n)) ≡ Some n =
    ap canonical_of (other_words-spaced (decimal m) (decimal n) none) ∙ canonical_of-decimal n (omega arith) in
    let first : canonical_of (first_word (decimal m ++ 32 ∷ decimal n)) ≡ Some m =
    ap canonical_of (first_word-spaced (decimal m) (decimal n) none) ∙ canonical_of-decimal m (omega arith) in
    ap (λ (o : Option ℕ). option_and_then (λ (x : ℕ). option_and_then (f x) o)
    (canonical_of (first_word (decimal m ++ 32 ∷ decimal n)))) second
    ∙ ap (λ (o : Option ℕ). option_and_then (λ (x : ℕ). f x n) o) first
    ∙ is

-- the line of an entry says it
pub entry_of-line_of : (e : Entry) → IsEntry e → entry_of (line_of e) ≡ Some e
entry_of-line_of (Arrival moment size) is =
    at_moment moment (43 ∷ 32 ∷ decimal size) is.0
    ∙ one_number (λ n. if_fits (is_between 1 1504 n) (Arrival moment n)) size (Arrival moment size)
    (omega (arith, is.2)) (fits (is_between 1 1504 size) (Arrival moment size) (between 1 1504 size is.1 is.2))
entry_of-line_of (Opportunity moment bytes) is =
    at_moment moment (35 ∷ 32 ∷ decimal bytes) is.0
    ∙ one_number (λ n. if_fits (is_between 1 1000000 n) (Opportunity moment n)) bytes (Opportunity moment bytes)
    (omega (arith, is.2)) (fits (is_between 1 1000000 bytes) (Opportunity moment bytes)
    (between 1 1000000 bytes is.1 is.2))
entry_of-line_of (Departure moment size delay) is =
    let in_range : (is_between 1 1504 size && nat_le delay moment) ≡ true = ap (λ x. x && nat_le delay moment)
    (between 1 1504 size is.1 is.2) ∙ le-leb delay moment is.3 in
    at_moment moment (45 ∷ 32 ∷ (decimal size ++ 32 ∷ decimal delay)) is.0
    ∙ two_numbers (λ m n. if_fits (is_between 1 1504 m && nat_le n moment) (Departure moment m n)) size delay
    (Departure moment size delay) (omega (arith, is.2)) (omega (arith, is.0, is.3))
    (fits (is_between 1 1504 size && nat_le delay moment) (Departure moment size delay) in_range)
entry_of-line_of (Drop moment packets bytes) is =
    let in_range : (nat_le 1 packets && nat_le 1 bytes) ≡ true = ap (λ x. x && nat_le 1 bytes) (le-leb 1 packets is.1)
    ∙ le-leb 1 bytes is.3 in
    at_moment moment (100 ∷ 32 ∷ (decimal packets ++ 32 ∷ decimal bytes)) is.0
    ∙ two_numbers (λ m n. if_fits (nat_le 1 m && nat_le 1 n) (Drop moment m n)) packets bytes
    (Drop moment packets bytes) is.2 is.4
    (fits (nat_le 1 packets && nat_le 1 bytes) (Drop moment packets bytes) in_range)

-- what is said by a computation that may fail
and_then : {X Y : Type 0} (o : Option X) (f : X → Option Y) (y : Y) → option_and_then f o ≡ Some y → (x : X)
    × (o ≡ Some x) × (f x ≡ Some y)
and_then None f y e = cc
and_then (Some x) f y e = (x, refl, e)

fitting : (b : Bool) (e e' : Entry) → if_fits b e ≡ Some e' → (b ≡ true) × (e ≡ e')
fitting true e e' is = (refl, cc)
fitting false e e' is = cc

in_between : (low high n : ℕ) → is_between low high n ≡ true → (low ≤ n) × (n ≤ high)
in_between low high n t = let parts = both (nat_le low n) (nat_le n high) t
    in (leb-true low n parts.0, leb-true n high parts.1)

-- what a line says by its sign is an entry in range, with that line
abbrev IsSaid : List ℕ → ℕ → List ℕ → Entry → Type 0
IsSaid sign moment rest e = IsEntry e × (line_of e ≡ decimal moment ++ 32 ∷ (sign ++ 32 ∷ rest)) × (0 < length sign)
    × (0 < length rest)

some_text : (text : List ℕ) (n : ℕ) → canonical_of text ≡ Some n → 0 < length text
some_text text n e = (canonical_of-Some text n e).some

short_number : (text : List ℕ) (n : ℕ) → canonical_of text ≡ Some n → IsShort n
short_number text n e = let small = (canonical_of-Some text n e).small in omega arith

more_than_one : (text : List ℕ) → 0 < length (other_words text) → 0 < length text
more_than_one [] some = absurd (omega arith)
more_than_one (x ∷ xs) some = omega arith

arrival_said : (moment : ℕ) (rest : List ℕ) (e : Entry) → IsShort moment → arrival_of moment rest ≡ Some e
    → IsSaid (43 ∷ []) moment rest e
arrival_said moment rest e short is =
    let n = and_then (canonical_of rest) (λ n. if_fits (is_between 1 1504 n) (Arrival moment n)) e is in
    let fit = fitting (is_between 1 1504 n.0) (Arrival moment n.0) e n.2 in
    let range = in_between 1 1504 n.0 fit.0 in
    let line : line_of (Arrival moment n.0) ≡ decimal moment
    ++ 32 ∷ 43 ∷ 32 ∷ rest = ap (λ (l : List ℕ). decimal moment ++ 32 ∷ 43 ∷ 32 ∷ l)
    (decimal-canonical_of rest n.0 n.1) in
    subst (IsSaid (43 ∷ []) moment rest) fit.1 ((short, range.0, range.1), line, omega arith, some_text rest n.0 n.1)

opportunity_said : (moment : ℕ) (rest : List ℕ) (e : Entry) → IsShort moment → opportunity_of moment rest ≡ Some e
    → IsSaid (35 ∷ []) moment rest e
opportunity_said moment rest e short is =
    let n = and_then (canonical_of rest) (λ n. if_fits (is_between 1 1000000 n) (Opportunity moment n)) e is in
    let fit = fitting (is_between 1 1000000 n.0) (Opportunity moment n.0) e n.2 in
    let range = in_between 1 1000000 n.0 fit.0 in
    let line : line_of (Opportunity moment n.0) ≡ decimal moment
    ++ 32 ∷ 35 ∷ 32 ∷ rest = ap (λ (l : List ℕ). decimal moment ++ 32 ∷ 35 ∷ 32 ∷ l)
    (decimal-canonical_of rest n.0 n.1) in
    subst (IsSaid (35 ∷ []) moment rest) fit.1 ((short, range.0, range.1), line, omega arith, some_text rest n.0 n.1)

-- two numbers, parted by a space
two_said : (rest : List ℕ) (m n : ℕ) → canonical_of (first_word rest) ≡ Some m
    → canonical_of (other_words rest) ≡ Some n → (decimal m ++ 32 ∷ decimal n ≡ rest) × (0 < length rest)
two_said rest m n e f =
    let some : 0 < length (other_words rest) = some_text (other_words rest) n f in
    let line : decimal m ++ 32 ∷ decimal n ≡ first_word rest ++ 32 ∷ other_words rest =
    ap (λ (l : List ℕ). l ++ 32 ∷ decimal n) (decimal-canonical_of (first_word rest) m e)
    ∙ ap (λ (l : List ℕ). first_word rest ++ 32 ∷ l) (decimal-canonical_of (other_words rest) n f) in
    (line ∙ sym (spaced_again rest some), more_than_one rest some)

departure_said : (moment : ℕ) (rest : List ℕ) (e : Entry) → IsShort moment → departure_of moment rest ≡ Some e
    → IsSaid (45 ∷ []) moment rest e
departure_said moment rest e short is =
    let m = and_then (canonical_of (first_word rest))
    (λ m. option_and_then (λ n. if_fits (is_between 1 1504 m && nat_le n moment) (Departure moment m n))
    (canonical_of (other_words rest))) e is in
    let n = and_then (canonical_of (other_words rest))
    (λ n. if_fits (is_between 1 1504 m.0 && nat_le n moment) (Departure moment m.0 n)) e m.2 in
    let fit = fitting (is_between 1 1504 m.0 && nat_le n.0 moment) (Departure moment m.0 n.0) e n.2 in
    let parts = both (is_between 1 1504 m.0) (nat_le n.0 moment) fit.0 in
    let range = in_between 1 1504 m.0 parts.0 in
    let two = two_said rest m.0 n.0 m.1 n.1 in
    let line : line_of (Departure moment m.0 n.0) ≡ decimal moment
    ++ 32 ∷ 45 ∷ 32 ∷ rest = ap (λ (l : List ℕ). decimal moment ++ 32 ∷ 45 ∷ 32 ∷ l) two.0 in
    subst (IsSaid (45 ∷ []) moment rest) fit.1 (
      (short, range.0, range.1, leb-true n.0 moment parts.1),
      line,
      omega arith,
      two.1,
    )

drop_said : (moment : ℕ) (rest : List ℕ) (e : Entry) → IsShort moment → drop_of moment rest ≡ Some e
    → IsSaid (100 ∷ []) moment rest e
drop_said moment rest e short is =
    let m = and_then (canonical_of (first_word rest))
    (λ m. option_and_then (λ n. if_fits (nat_le 1 m && nat_le 1 n) (Drop moment m n))
    (canonical_of (other_words rest))) e is in
    let n = and_then (canonical_of (other_words rest)) (λ n. if_fits (nat_le 1 m.0 && nat_le 1 n) (Drop moment m.0 n))
    e m.2 in
    let fit = fitting (nat_le 1 m.0 && nat_le 1 n.0) (Drop moment m.0 n.0) e n.2 in
    let parts = both (nat_le 1 m.0) (nat_le 1 n.0) fit.0 in
    let two = two_said rest m.0 n.0 m.1 n.1 in
    let line : line_of (Drop moment m.0 n.0) ≡ decimal moment ++ 32 ∷ 100 ∷ 32 ∷ rest =
    ap (λ (l : List ℕ). decimal moment ++ 32 ∷ 100 ∷ 32 ∷ l) two.0 in
    subst (IsSaid (100 ∷ []) moment rest) fit.1 (
      (
        short,
        leb-true 1 m.0 parts.0,
        short_number (first_word rest) m.0 m.1,
        leb-true 1 n.0 parts.1,
        short_number (other_words rest) n.0 n.1,
      ),
      line,
      omega arith,
      two.1,
    )

either : (b : Bool) (o p : Option Entry) (e : Entry) (P : Type 0) → cond b o p ≡ Some e → (b ≡ true → o ≡ Some e → P)
    → (p ≡ Some e → P) → P
either true o p e P is f g = f refl is
either false o p e P is f g = g is

same_sign : (sign known : List ℕ) → bytes_eq sign known ≡ true → known ≡ sign
same_sign sign known e = sym ((bytes_eq-Decides sign known).0 e)

by_sign_said : (sign : List ℕ) (moment : ℕ) (rest : List ℕ) (e : Entry) → IsShort moment
    → entry_by_sign sign moment rest ≡ Some e → IsSaid sign moment rest e
by_sign_said sign moment rest e short is =
    let known : (word : List ℕ) → bytes_eq sign word ≡ true → IsSaid word moment rest e → IsSaid sign moment rest e =
    λ word t said. subst (λ (w : List ℕ). IsSaid w moment rest e) (same_sign sign word t) said in
    either (bytes_eq sign (codes "+")) (arrival_of moment rest) _ e (IsSaid sign moment rest e) is
    (λ t said. known (43 ∷ []) t (arrival_said moment rest e short said))
    (λ is'. either (bytes_eq sign (codes "#")) (opportunity_of moment rest) _ e (IsSaid sign moment rest e) is'
    (λ t said. known (35 ∷ []) t (opportunity_said moment rest e short said))
    (λ is''. either (bytes_eq sign (codes "-")) (departure_of moment rest) _ e (IsSaid sign moment rest e) is''
    (λ t said. known (45 ∷ []) t (departure_said moment rest e short said))
    (λ is'''. either (bytes_eq sign (codes "d")) (drop_of moment rest) None e (IsSaid sign moment rest e) is'''
    (λ t said. known (100 ∷ []) t (drop_said moment rest e short said))
    (λ no. cc))))

-- a line that says an entry is that entry's line
pub line_of-entry_of : (line : List ℕ) (e : Entry) → entry_of line ≡ Some e → (line_of e ≡ line) × IsEntry e
line_of-entry_of line e is =
    let others = other_words line in
    let m = and_then (canonical_of (first_word line)) (λ m. entry_by_sign (first_word others) m (other_words others))
    e is in
    let short = short_number (first_word line) m.0 m.1 in
    let said = by_sign_said (first_word others) m.0 (other_words others) e short m.2 in
    let inner : others ≡ first_word others ++ 32 ∷ other_words others = spaced_again others said.3 in
    let outer : line ≡ first_word line ++ 32 ∷ others = spaced_again line (more_than_one others said.3) in (
      said.1
          ∙ ap (λ (l : List ℕ). decimal m.0 ++ 32 ∷ l) (sym inner)
          ∙ ap (λ (l : List ℕ). l ++ 32 ∷ others) (decimal-canonical_of (first_word line) m.0 m.1)
          ∙ sym outer,
      said.0,
    )

-- which is in range
pub entry_in_range : (line : List ℕ) (e : Entry) → entry_of line ≡ Some e → IsEntry e
entry_in_range line e is = (line_of-entry_of line e is).1
