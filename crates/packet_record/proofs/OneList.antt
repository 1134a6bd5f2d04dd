-- A text has one list of rows.
use Rattle.std.proofs.Common.{◌≡◌, ℕ, ◌+◌, ◌≤◌, List, [], ◌∷◌, refl, ap, subst, sym, ◌∙◌}
use Rattle.std.proofs.Math.Bridge.{le_prop}
use Rattle.text_base.specs.Lines.{lines_of}
use Rattle.packet_record.specs.Schedules.{AreRows, IsScheduleText, said}
use Rattle.packet_record.specs.declared.packet.Direction.{Direction}
use Rattle.packet_record.specs.declared.packet.Packet.{Packet}
use Rattle.packet_record.specs.declared.packet.Row.{Row}

abbrev packet : (id size : ℕ) → 1 ≤ size → size ≤ 1504 → Packet
packet id size some most = record { id = id; size = size; some = some; most = most }

same_sized : (id size size' : ℕ) → size ≡ size' → (some : 1 ≤ size) (most : size ≤ 1504) (some' : 1 ≤ size')
    (most' : size' ≤ 1504)
    → packet id size some most ≡ packet id size' some' most'
same_sized id size size' e some most =
    subst (λ s. (some' : 1 ≤ s) (most' : s ≤ 1504) → packet id size some most ≡ packet id s some' most') e
    (λ some' most'. ap (λ p. packet id size p most) (le_prop some some')
    ∙ ap (λ p. packet id size some' p) (le_prop most most'))

pub same_packet : (p q : Packet) → p.id ≡ q.id → p.size ≡ q.size → p ≡ q
same_packet p q i s =
    ap (λ n. packet n p.size p.some p.most) i ∙ same_sized q.id p.size q.size s p.some p.most q.some q.most

abbrev row_of : Direction → ℕ → Packet → Row
row_of direction moment p = record { direction = direction; timed = record { moment = moment; packet = p } }

-- rows with the same number that say the same are the same
pub same_row : (a b : Row) → a.timed.packet.id ≡ b.timed.packet.id → said a ≡ said b → a ≡ b
same_row a b i e =
    ap (λ s. row_of s.direction s.moment a.timed.packet) e
    ∙ ap (λ p. row_of b.direction b.timed.moment p) (same_packet a.timed.packet b.timed.packet i (ap (λ s. s.size) e))

one_list_from : (place low : ℕ) (lines : List (List ℕ)) (rows others : List Row) → AreRows place low lines rows
    → AreRows place low lines others → rows ≡ others
one_list_from place low [] [] [] p q = refl
one_list_from place low [] [] (b ∷ others) p q = absurd q
one_list_from place low [] (a ∷ rows) others p q = absurd p
one_list_from place low (line ∷ lines) [] others p q = absurd p
one_list_from place low (line ∷ lines) (a ∷ rows) [] p q = absurd q
one_list_from place low (line ∷ lines) (a ∷ rows) (b ∷ others) p q =
    let says : said a ≡ said b = cc (p.0, q.0) in
    let same = same_row a b (p.1 ∙ sym q.1) says in
    let rest : AreRows (place + 1) a.timed.moment lines others =
    subst (λ (r : Row). AreRows (place + 1) r.timed.moment lines others) (sym same) q.4 in
    ap (λ r. r ∷ rows) same ∙ ap (λ l. b ∷ l) (one_list_from (place + 1) a.timed.moment lines rows others p.4 rest)

pub one_list : (text : List ℕ) (rows others : List Row) → IsScheduleText text rows → IsScheduleText text others
    → rows ≡ others
one_list text rows others p q = one_list_from 1 0 (lines_of text) rows others p q
