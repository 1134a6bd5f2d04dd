-- What a step's answer says of the world before it and after it.
use Rattle.std.proofs.Common.{◌≡◌, ◌≢◌, ◌↔◌, ℕ, ◌+◌, ◌*◌, ◌<◌, Bool, true, false, IsTrue, Result, Ok, Err, OnOk, OnErr}
use Rattle.std.proofs.Common.{IfOk, ap, sym, subst, ◌∙◌, refl, arith}
use Rattle.std.specs.Bool.{OnTrue, OnFalse}
use Rattle.packet_record.specs.Streams.{Stream}
use Rattle.text_base.specs.declared.OutOfMemory.{OutOfMemory}
use Rattle.nest_core.specs.declared.actor.Actor.{Actor}
use Rattle.nest_core.specs.Worlds.{WorldParts}
use Rattle.nest_core.specs.WorldSteps.{actors_of, act, step_of}
use Rattle.nest_core.specs.Actors.{actor_of}
use Rattle.nest_core.specs.Promises.{arrivals_of, specs_of, KeepsFirst}
use Rattle.nest_core.specs.Left.{left_of}
use Rattle.nest_core.specs.inside.Standing.{WorldStands}
use Rattle.nest_core.specs.inside.Does.{does}
use Rattle.nest_core.proofs.Meeting.{act_source, act_specs, act_horizon, act_stations}
use Rattle.nest_core.proofs.Lessening.{act_less, act_same}

pub stepped : (w new : WorldParts) (number : ℕ) (a : Actor) (r : Result Bool OutOfMemory) → actor_of number ≡ a
    → OnOk r (new ≡ act w a) → OnOk r (new ≡ step_of w number)
unfolding step_of
stepped w new number a (Ok did) is ok = ok ∙ ap (act w) (sym is)
stepped w new number a (Err e) is ok = tt

did_less : (w new : WorldParts) (a : Actor) (did : Bool) → WorldStands w → new ≡ act w a → did ≡ does w a
    → OnTrue did (left_of new < left_of w)
did_less w new a true st is e = subst (λ (v : WorldParts). left_of v < left_of w) (sym is) (act_less w a st (sym e))
did_less w new a false st is e = tt

did_same : (w new : WorldParts) (a : Actor) (did : Bool) → WorldStands w → new ≡ act w a → did ≡ does w a
    → OnFalse did (new ≡ w)
did_same w new a true st is e = tt
did_same w new a false st is e = is ∙ act_same w a st (sym e)

changed_by : (w new : WorldParts) (did : Bool) → OnTrue did (left_of new < left_of w) → OnFalse did (new ≡ w)
    → IsTrue did ↔ (new ≢ w)
changed_by w new true less same = (λ t e. let x = ap left_of e in omega arith, λ n. refl)
changed_by w new false less same = (λ t. absurd (cc t), λ n. absurd (n same))

pub stepped_less : (w new : WorldParts) (a : Actor) (r : Result Bool OutOfMemory) → WorldStands w
    → OnOk r (new ≡ act w a) → IfOk r (λ did. did ≡ does w a)
    → IfOk r (λ did. OnTrue did (left_of new < left_of w))
stepped_less w new a (Ok did) st ok e = did_less w new a did st ok e
stepped_less w new a (Err x) st ok e = tt

pub stepped_same : (w new : WorldParts) (a : Actor) (r : Result Bool OutOfMemory) → WorldStands w
    → OnOk r (new ≡ act w a) → IfOk r (λ did. did ≡ does w a)
    → IfOk r (λ did. OnFalse did (new ≡ w))
stepped_same w new a (Ok did) st ok e = did_same w new a did st ok e
stepped_same w new a (Err x) st ok e = tt

pub stepped_changed : (w new : WorldParts) (a : Actor) (r : Result Bool OutOfMemory) → WorldStands w
    → OnOk r (new ≡ act w a) → IfOk r (λ did. did ≡ does w a)
    → IfOk r (λ did. IsTrue did ↔ (new ≢ w))
stepped_changed w new a (Ok did) st ok e = changed_by w new did (did_less w new a did st ok e)
    (did_same w new a did st ok e)
stepped_changed w new a (Err x) st ok e = tt

pub stepped_keeps : (w new : WorldParts) (a : Actor) (r : Result Bool OutOfMemory) → WorldStands w
    → OnOk r (new ≡ act w a) → OnErr r (new ≡ w) → KeepsFirst w new
stepped_keeps w new a (Ok did) st ok err = record {
  horizon = ap (λ (v : WorldParts). v.horizon) ok ∙ act_horizon w a;
  arrivals = ap arrivals_of ok ∙ ap (λ (f : Stream). f.packets) (act_source w a st);
  specs = ap specs_of ok ∙ act_specs w a;
}
stepped_keeps w new a (Err e) st ok err = record {
  horizon = ap (λ (v : WorldParts). v.horizon) err;
  arrivals = ap arrivals_of err;
  specs = ap specs_of err;
}

pub stepped_actors : (w new : WorldParts) (a : Actor) (r : Result Bool OutOfMemory) → OnOk r (new ≡ act w a)
    → OnErr r (new ≡ w) → actors_of new ≡ actors_of w
stepped_actors w new a (Ok did) ok err = ap actors_of ok ∙ ap (λ n. 4 * n + 2) (act_stations w a)
stepped_actors w new a (Err e) ok err = ap actors_of err
