use Rattle.std.proofs.Common.{◌≡◌, ◌/◌, ◌%◌, ◌<◌, ℕ, Some, Vec, arith, length, slice_get, subst, sym}
use Rattle.std.specs.declared.alloc.Global.{Global}
use Rattle.nest_spec.proofs.Listing.{elsewhere, listed_other, listed_put}
use Rattle.nest_spec.proofs.places.list_place.Goals as goal

pub returns-clause-here : goal.returns-clause-here
returns-clause-here c =
    let long = c.requires in
    let within : c.args.id % 16 < length c.args.lists.now.items = omega arith in
    listed_put c.args.lists.now.items (c.args.id % 16) (c.args.id / 16) c.put_place.new.list c.args.place within
    c.in_ok-put_place.ensures.here

pub returns-clause-kept : goal.returns-clause-kept
returns-clause-kept c = λ other i ne is.
    listed_other c.args.lists.now.items (c.args.id % 16) (other % 16) (other / 16) c.put_place.new.list
    c.index_mut-list.result.now i (λ same there. c.in_ok-put_place.ensures.kept (other / 16) i
    (elsewhere c.args.id other ne same) (subst (λ (v : Vec ℕ Global). slice_get v.items (other / 16) ≡ Some i)
    (sym c.index_mut-list.ensures.value) there)) is
