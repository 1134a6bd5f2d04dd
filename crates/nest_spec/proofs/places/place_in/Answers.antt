use Rattle.std.proofs.Common.{◌∙◌, ◌/◌, ◌%◌, List, ℕ, ap, slice_get, sym}
use Rattle.nest_spec.proofs.Listing.{listed_of, not_listed}
use Rattle.nest_spec.proofs.places.place_in.Goals as goal

pub returns-in_default : goal.returns-in_default
returns-in_default c =
    sym (not_listed c.args.lists.now (c.args.id % 16) (c.args.id / 16) c.in_default.ensures.lookup.3)

pub returns : goal.returns
returns c =
    c.place_at.ensures
    ∙ ap (λ (l : List ℕ). slice_get l (c.args.id / 16)) c.as_slice.ensures.value
    ∙ sym (listed_of c.args.lists.now (c.args.id % 16) (c.args.id / 16) c.in-Some.list.now
    c.in-Some.ensures.lookup.3.0 c.in-Some.ensures.lookup.1)
