-- Eight digits in the bytes of a word are joined to their number.
use Rattle.std.proofs.Common.{◌≡◌, ℕ, ◌+◌, ◌*◌, ◌/◌, ◌%◌, ◌^◌, ◌<◌, bit_and, ap, ◌∙◌, arith}
use Rattle.std.proofs.Common.{fold, get_or}
use Rattle.std.proofs.lemmas.Nat.{and_block, and_mask}
use Rattle.std.specs.Int.{w64, to_le_bytes}
use Rattle.std.specs.List.{All}
use Rattle.std.proofs.lemmas.List.Elements.{All-get_or}

-- the low byte of a pair of bytes is kept
keep_byte : (a b p q : ℕ) → p < 256 → q < 256 → bit_and (a * 65536 + (q * 256 + p)) (b * 65536 + 255)
    ≡ bit_and a b * 65536 + p
keep_byte a b p q small small' =
    let low : bit_and (q * 256 + p) 255 ≡ p = and_mask (q * 256 + p) 8 ∙ omega arith in
    and_block 16 a b (q * 256 + p) 255 (omega arith) (omega arith) ∙ ap (λ r. bit_and a b * 65536 + r) low

-- the low half of four bytes is kept
keep_pair : (a b p q : ℕ) → p < 65536 → q < 65536 → bit_and (a * 4294967296 + (q * 65536 + p)) (b * 4294967296 + 65535)
    ≡ bit_and a b * 4294967296 + p
keep_pair a b p q small small' =
    let low : bit_and (q * 65536 + p) 65535 ≡ p = and_mask (q * 65536 + p) 16 ∙ omega arith in
    and_block 32 a b (q * 65536 + p) 65535 (omega arith) (omega arith) ∙ ap (λ r. bit_and a b * 4294967296 + r) low

last_byte : (p q : ℕ) → p < 256 → bit_and (q * 256 + p) 255 ≡ p
last_byte p q small = and_mask (q * 256 + p) 8 ∙ omega arith

last_pair : (p q : ℕ) → p < 65536 → bit_and (q * 65536 + p) 65535 ≡ p
last_pair p q small = and_mask (q * 65536 + p) 16 ∙ omega arith

-- of eight bytes every second is kept
kept_bytes : (p0 p1 p2 p3 p4 p5 p6 p7 : ℕ) → p0 < 256 → p1 < 256 → p2 < 256 → p3 < 256 → p4 < 256 → p5 < 256 → p6 < 256
    → p7 < 256
    → bit_and ((((p7 * 256 + p6) * 65536 + (p5 * 256 + p4)) * 65536 + (p3 * 256 + p2)) * 65536 + (p1 * 256 + p0))
    71777214294589695 ≡ ((p6 * 65536 + p4) * 65536 + p2) * 65536 + p0
kept_bytes p0 p1 p2 p3 p4 p5 p6 p7 b0 b1 b2 b3 b4 b5 b6 b7 =
    keep_byte _ 1095233372415 p0 p1 b0 b1
    ∙ ap (λ a. a * 65536 + p0) (keep_byte _ 16711935 p2 p3 b2 b3
    ∙ ap (λ a. a * 65536 + p2) (keep_byte _ 255 p4 p5 b4 b5 ∙ ap (λ a. a * 65536 + p4) (last_byte p6 p7 b6)))

-- digits to pairs
pairs : (d e0 e1 e2 e3 e4 e5 e6 e7 : ℕ) → e0 < 10 → e1 < 10 → e2 < 10 → e3 < 10 → e4 < 10 → e5 < 10 → e6 < 10 → e7 < 10
    → d ≡ ((((((e7 * 256 + e6) * 256 + e5) * 256 + e4) * 256 + e3) * 256 + e2) * 256 + e1) * 256 + e0
    → bit_and (d * 10 + d / 256) 71777214294589695
    ≡ (((e6 * 10 + e7) * 65536 + (e4 * 10 + e5)) * 65536 + (e2 * 10 + e3)) * 65536 + (e0 * 10 + e1)
pairs d e0 e1 e2 e3 e4 e5 e6 e7 b0 b1 b2 b3 b4 b5 b6 b7 e =
    let h = (((((e7 * 256 + e6) * 256 + e5) * 256 + e4) * 256 + e3) * 256 + e2) * 256 + e1 in
    let shifted : d / 256 ≡ h = omega arith in
    let spread : d * 10 + d / 256
    ≡ ((((e7 * 10) * 256 + (e6 * 10 + e7)) * 65536 + ((e5 * 10 + e6) * 256 + (e4 * 10 + e5))) * 65536
    + ((e3 * 10 + e4) * 256 + (e2 * 10 + e3))) * 65536 + ((e1 * 10 + e2) * 256 + (e0 * 10 + e1)) = omega (arith, shifted, e) in
    ap (λ x. bit_and x 71777214294589695) spread
    ∙ kept_bytes (e0 * 10 + e1) (e1 * 10 + e2) (e2 * 10 + e3) (e3 * 10 + e4) (e4 * 10 + e5) (e5 * 10 + e6) (e6 * 10 + e7)
    (e7 * 10) (omega arith) (omega arith) (omega arith) (omega arith) (omega arith) (omega arith) (omega arith)
    (omega arith)

-- pairs to fours
fours : (d p0 p1 p2 p3 : ℕ) → p0 < 100 → p1 < 100 → p2 < 100 → p3 < 100
    → d ≡ ((p3 * 65536 + p2) * 65536 + p1) * 65536 + p0
    → bit_and (d * 100 + d / 65536) 281470681808895 ≡ (p2 * 100 + p3) * 4294967296 + (p0 * 100 + p1)
fours d p0 p1 p2 p3 b0 b1 b2 b3 e =
    let spread : d * 100 + d / 65536 ≡ ((p3 * 100) * 65536 + (p2 * 100 + p3)) * 4294967296
    + ((p1 * 100 + p2) * 65536 + (p0 * 100 + p1)) = omega arith in
    ap (λ x. bit_and x 281470681808895) spread
    ∙ keep_pair ((p3 * 100) * 65536 + (p2 * 100 + p3)) 65535 (p0 * 100 + p1) (p1 * 100 + p2) (omega arith) (omega arith)
    ∙ ap (λ a. a * 4294967296 + (p0 * 100 + p1)) (last_pair (p2 * 100 + p3) (p3 * 100) (omega arith))

-- fours to the number
eight : (d f0 f1 : ℕ) → f0 < 10000 → f1 < 10000 → d ≡ f1 * 4294967296 + f0
    → bit_and (d * 10000 + d / 4294967296) 4294967295 ≡ f0 * 10000 + f1
eight d f0 f1 b0 b1 e = and_mask (d * 10000 + d / 4294967296) 32 ∙ omega arith

pub joined : (d : ℕ) → d < 2 ^ 64 → All (λ digit. digit < 10) (to_le_bytes w64 d)
    → (p f : ℕ) → p ≡ bit_and (d * 10 + d / 256) 71777214294589695
    → f ≡ bit_and (p * 100 + p / 65536) 281470681808895
    → bit_and (f * 10000 + f / 4294967296) 4294967295
    ≡ fold (λ value digit. value * 10 + digit) 0 (to_le_bytes w64 d)
joined d fits small p f ep ef =
    let e0 = d % 256 in
    let e1 = d / 256 % 256 in
    let e2 = d / 65536 % 256 in
    let e3 = d / 16777216 % 256 in
    let e4 = d / 4294967296 % 256 in
    let e5 = d / 1099511627776 % 256 in
    let e6 = d / 281474976710656 % 256 in
    let e7 = d / 72057594037927936 % 256 in
    let digit : (i : ℕ) → i < 8 → get_or (to_le_bytes w64 d) i 0 < 10 = λ i lt. All-get_or (λ digit. digit < 10) (to_le_bytes w64 d) i 0 lt small in
    let b0 : e0 < 10 = digit 0 (omega arith) in
    let b1 : e1 < 10 = digit 1 (omega arith) in
    let b2 : e2 < 10 = digit 2 (omega arith) in
    let b3 : e3 < 10 = digit 3 (omega arith) in
    let b4 : e4 < 10 = digit 4 (omega arith) in
    let b5 : e5 < 10 = digit 5 (omega arith) in
    let b6 : e6 < 10 = digit 6 (omega arith) in
    let b7 : e7 < 10 = digit 7 (omega arith) in
    let whole : d ≡ ((((((e7 * 256 + e6) * 256 + e5) * 256 + e4) * 256 + e3) * 256 + e2) * 256 + e1) * 256 + e0 =
    omega arith in
    let two = ep ∙ pairs d e0 e1 e2 e3 e4 e5 e6 e7 b0 b1 b2 b3 b4 b5 b6 b7 whole in
    let four = ef ∙ fours p (e0 * 10 + e1) (e2 * 10 + e3) (e4 * 10 + e5) (e6 * 10 + e7) (omega (arith, b0, b1))
    (omega (arith, b2, b3)) (omega (arith, b4, b5)) (omega (arith, b6, b7)) two in
    eight f ((e0 * 10 + e1) * 100 + (e2 * 10 + e3)) ((e4 * 10 + e5) * 100 + (e6 * 10 + e7)) (omega (arith, b0, b1, b2, b3))
    (omega (arith, b4, b5, b6, b7)) four
    ∙ sum e0 e1 e2 e3 e4 e5 e6 e7
  where
    sum : (e0 e1 e2 e3 e4 e5 e6 e7 : ℕ)
        → ((e0 * 10 + e1) * 100 + (e2 * 10 + e3)) * 10000 + ((e4 * 10 + e5) * 100 + (e6 * 10 + e7))
        ≡ (((((((0 + e0) * 10 + e1) * 10 + e2) * 10 + e3) * 10 + e4) * 10 + e5) * 10 + e6) * 10 + e7
    sum e0 e1 e2 e3 e4 e5 e6 e7 = omega arith
