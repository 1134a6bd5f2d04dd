use Rattle.std.proofs.Common.{◌≡◌, ℕ, List, [], ◌∷◌, codes, decimal, subst, ◌∙◌}
use Rattle.std.specs.List.{flat_map}
use Rattle.command_ends.specs.inside.Stops.{Sends}
use Rattle.command_ends.proofs.explain.send_bad_input.Goals as goal

abbrev line : List ℕ → List ℕ → List ℕ → List ℕ
line name number place = flat_map (λ piece. piece)
    (codes "mm: bad input " ∷ name ∷ codes " " ∷ number ∷ codes " " ∷ place ∷ codes "\n" ∷ [])

pub returns : goal.returns
returns g c =
    let name : c.as_bytes.result.now ≡ c.args.name.now = c.as_bytes.ensures.value ∙ c.as_str.ensures in
    let number : c.as_bytes-2.result.now ≡ decimal c.args.number = c.as_bytes-2.ensures.value ∙ c.format.ensures.text in
    let place : c.as_bytes-3.result.now ≡ decimal c.args.place = c.as_bytes-3.ensures.value ∙ c.format-2.ensures.text in
    let same : line c.as_bytes.result.now c.as_bytes-2.result.now c.as_bytes-3.result.now ≡ line c.args.name.now
    (decimal c.args.number) (decimal c.args.place) =
    λ j. line (name j) (number j) (place j) in
    subst (λ (text : List ℕ). Sends {T = Unit {0}} text (g.O.Sink.view c.args.out.now)
    (g.O.Sink.view c.send_pieces.new.out) c.send_pieces.result) same c.send_pieces.ensures
