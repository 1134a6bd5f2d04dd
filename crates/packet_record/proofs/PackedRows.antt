-- A row in 12 bytes has the parts of its row.
use Rattle.std.proofs.Common.{◌≡◌, ℕ, ◌+◌, ◌*◌, ◌/◌, ◌%◌, ◌≤◌, ap, arith, sym, ◌∙◌}
use Rattle.std.specs.Prelude.{◌==◌, if◌then◌else◌}
use Rattle.packet_record.specs.Said.{fields}
use Rattle.packet_record.specs.declared.packet.Direction.{Direction}
use Rattle.packet_record.specs.declared.packet.Direction.TheVariants.{Up, Down}
use Rattle.packet_record.specs.declared.packet.Row.{Row}
use Rattle.packet_record.specs.declared.packet.Timed.{Timed}
use Rattle.packet_record.proofs.OneList.{same_packet, same_row}

pub same_timed : (t u : Timed) → t.moment ≡ u.moment → t.packet.id ≡ u.packet.id → t.packet.size ≡ u.packet.size
    → t ≡ u
same_timed t u m i s =
    ap (λ n. record { moment = n; packet = t.packet }) m
    ∙ ap (λ p. record { moment = u.moment; packet = p }) (same_packet t.packet u.packet i s)

pub same_parts : (r q : Row) → r.timed.packet.id ≡ q.timed.packet.id → r.timed.moment ≡ q.timed.moment
    → r.direction ≡ q.direction → r.timed.packet.size ≡ q.timed.packet.size → r ≡ q
same_parts r q i m d s =
    same_row r q i (ap (λ n. fields n r.direction r.timed.packet.size) m
    ∙ ap (λ n. fields q.timed.moment n r.timed.packet.size) d ∙ ap (λ n. fields q.timed.moment q.direction n) s)

abbrev pub packed_direction : ℕ → Direction
packed_direction rest = if rest / 2048 % 2 == 0 then Up else Down

abbrev pub packed_moment : ℕ → ℕ → ℕ
packed_moment low rest = rest / 4096 * 4294967296 + low

-- what `rest` has for a packet of `size` bytes that goes up, at a moment of which it has `high`
pub up_parts : (moment size : ℕ) → size ≤ 1504
    → (packed_direction (moment / 4294967296 * 4096 + size) ≡ Up)
    × (packed_moment (moment % 4294967296) (moment / 4294967296 * 4096 + size) ≡ moment)
    × ((moment / 4294967296 * 4096 + size) % 2048 ≡ size)
up_parts moment size le =
    let even : (moment / 4294967296 * 4096 + size) / 2048 % 2 ≡ 0 = omega (arith, le) in (
      ap (λ n. if n == 0 then Up else Down) even,
      omega (arith, le),
      omega (arith, le),
    )

pub down_parts : (moment size : ℕ) → size ≤ 1504
    → (packed_direction (moment / 4294967296 * 4096 + size + 2048) ≡ Down)
    × (packed_moment (moment % 4294967296) (moment / 4294967296 * 4096 + size + 2048) ≡ moment)
    × ((moment / 4294967296 * 4096 + size + 2048) % 2048 ≡ size)
down_parts moment size le =
    let odd : (moment / 4294967296 * 4096 + size + 2048) / 2048 % 2 ≡ 1 = omega (arith, le) in (
      ap (λ n. if n == 0 then Up else Down) odd,
      omega (arith, le),
      omega (arith, le),
    )
