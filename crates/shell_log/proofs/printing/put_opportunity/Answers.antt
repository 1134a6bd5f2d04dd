use Rattle.std.proofs.Common.{◌≡◌, ◌++◌, ◌∷◌, [], decimal, ap, refl, sym, ◌∙◌, rules}
use Rattle.std.specs.Fmt.{digits}
use Rattle.shell_log.proofs.printing.put_opportunity.Goals as goal

whole_packet : decimal 1504 ≡ 49 ∷ 53 ∷ 48 ∷ 52 ∷ []
unfolding digits
whole_packet = refl

pub returns-then-bytes-eq-PACKET_BYTES-clause-bytes : goal.returns-then-bytes-eq-PACKET_BYTES-clause-bytes
returns-then-bytes-eq-PACKET_BYTES-clause-bytes c =
    let is : c.args.bytes ≡ 1504 = search rules in
    c.put.ensures.bytes
    ∙ ap (λ text. 32 ∷ 35 ∷ 32 ∷ (text ++ 10 ∷ c.args.out.now)) (sym whole_packet)
    ∙ ap (λ n. 32 ∷ 35 ∷ 32 ∷ (decimal n ++ 10 ∷ c.args.out.now)) (sym is)
