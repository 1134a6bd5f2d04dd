-- The line at the front of a text, from its numbers.
use Rattle.std.proofs.Common.{◌≡◌, ℕ, ◌+◌, ◌-◌, ◌++◌, Bool, false, cond, List, ◌∷◌, length, take}
use Rattle.std.proofs.Common.{Some, None, ap, sym, ◌∙◌, arith, append_assoc, length-append}
use Rattle.text_base.specs.Numbers.{decimal_of, canonical_of, leads_with_zero}
use Rattle.text_base.proofs.NumbersLemmas.{canonical_of-Some, decimal-canonical_of}
use Rattle.std.specs.Fmt.{decimal}
use Rattle.std.proofs.Math.Seq.{take-append_seam}
use Rattle.shell_log.specs.declared.entry.Entry.TheVariants.{Arrival, Opportunity, Departure, Drop}
use Rattle.shell_log.specs.Entries.{IsShort}
use Rattle.shell_log.specs.LogText.{line_of}

-- a sign between two spaces, and a number before a line feed
one_more : (front : List ℕ) (sign n : ℕ) (text rest : List ℕ) → text ≡ decimal n ++ 10 ∷ rest
    → front ++ 32 ∷ sign ∷ 32 ∷ text ≡ (front ++ 32 ∷ sign ∷ 32 ∷ decimal n) ++ 10 ∷ rest
one_more front sign n text rest e =
    ap (λ (t : List ℕ). front ++ 32 ∷ sign ∷ 32 ∷ t) e
    ∙ sym (append_assoc front (32 ∷ sign ∷ 32 ∷ decimal n) (10 ∷ rest))

-- and two numbers
two_more : (front : List ℕ) (sign m n : ℕ) (text rest : List ℕ) → text ≡ decimal m ++ 32 ∷ (decimal n ++ 10 ∷ rest)
    → front ++ 32 ∷ sign ∷ 32 ∷ text ≡ (front ++ 32 ∷ sign ∷ 32 ∷ (decimal m ++ 32 ∷ decimal n)) ++ 10 ∷ rest
two_more front sign m n text rest e =
    ap (λ (t : List ℕ). front ++ 32 ∷ sign ∷ 32 ∷ t) (e ∙ sym (append_assoc (decimal m) (32 ∷ decimal n) (10 ∷ rest)))
    ∙ sym (append_assoc front (32 ∷ sign ∷ 32 ∷ (decimal m ++ 32 ∷ decimal n)) (10 ∷ rest))

pub arrival_in_front : (moment size : ℕ) (text rest : List ℕ) → text ≡ decimal size ++ 10 ∷ rest
    → decimal moment ++ 32 ∷ 43 ∷ 32 ∷ text ≡ line_of (Arrival moment size) ++ 10 ∷ rest
arrival_in_front moment size text rest e = one_more (decimal moment) 43 size text rest e

pub opportunity_in_front : (moment bytes : ℕ) (text rest : List ℕ) → text ≡ decimal bytes ++ 10 ∷ rest
    → decimal moment ++ 32 ∷ 35 ∷ 32 ∷ text ≡ line_of (Opportunity moment bytes) ++ 10 ∷ rest
opportunity_in_front moment bytes text rest e = one_more (decimal moment) 35 bytes text rest e

pub departure_in_front : (moment size delay : ℕ) (text rest : List ℕ) → text ≡ decimal size
    ++ 32 ∷ (decimal delay ++ 10 ∷ rest)
    → decimal moment ++ 32 ∷ 45 ∷ 32 ∷ text ≡ line_of (Departure moment size delay) ++ 10 ∷ rest
departure_in_front moment size delay text rest e = two_more (decimal moment) 45 size delay text rest e

pub drop_in_front : (moment packets bytes : ℕ) (text rest : List ℕ) → text ≡ decimal packets
    ++ 32 ∷ (decimal bytes ++ 10 ∷ rest)
    → decimal moment ++ 32 ∷ 100 ∷ 32 ∷ text ≡ line_of (Drop moment packets bytes) ++ 10 ∷ rest
drop_in_front moment packets bytes text rest e = two_more (decimal moment) 100 packets bytes text rest e

-- the word before what follows, of which a number is read
pub number_in_front : (text word rest : List ℕ) (n : ℕ) → text ≡ word ++ rest → decimal_of word ≡ Some n
    → leads_with_zero (take (length text - length rest) text) ≡ false
    → (text ≡ decimal n ++ rest) × IsShort n
number_in_front text word rest n cut said plain =
    let long : length text ≡ length word + length rest = ap length cut ∙ length-append word rest in
    let front : take (length text - length rest) text ≡ word =
    ap (λ (k : ℕ). take k text) (let e : length text - length rest ≡ length word = omega arith in e)
    ∙ ap (take (length word)) cut ∙ take-append_seam word rest in
    let none : leads_with_zero word ≡ false = sym (ap leads_with_zero front) ∙ plain in
    let canonical : canonical_of word ≡ Some n = ap (λ (b : Bool). cond b None (decimal_of word)) none ∙ said in (
      cut ∙ ap (λ (w : List ℕ). w ++ rest) (sym (decimal-canonical_of word n canonical)),
      let small = (canonical_of-Some word n canonical).small in omega arith,
    )
