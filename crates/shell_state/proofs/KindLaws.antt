-- Each kind of shell keeps the laws.
use Rattle.std.proofs.Common.{◌≡◌, ℕ, ◌+◌, Bool, true, false, List, [], ◌∷◌, length, min, take, sym, refl, arith}
use Rattle.std.proofs.lemmas.List.{append-nil}
use Rattle.packet_record.specs.declared.packet.Timed.{Timed}
use Rattle.packet_record.specs.Moments.{AreUpTo}
use Rattle.packet_record.proofs.MomentsLemmas.{from_lower, up_to_higher}
use Rattle.packet_queue.specs.declared.spec.QueueSpec.{QueueSpec}
use Rattle.delay_core.specs.Delays.{delayed}
use Rattle.delay_core.proofs.Delaying.{delayed-append, from-delayed, up_to-delayed, within-delayed, rise-delayed}
use Rattle.loss_core.specs.declared.rate.Rate.{Rate}
use Rattle.loss_core.specs.Losses.{cha_word, passed}
use Rattle.loss_core.proofs.LossLaws.{passed-append, from-passed, up_to-passed, up_to-dropped, rise-passed}
use Rattle.trace_reader.specs.Opps.{opps}
use Rattle.trace_reader.specs.Traces.{TraceView}
use Rattle.trace_reader.proofs.OppsLaws.{opps_rising}
use Rattle.link_core.specs.inside.Promises.{Extends}
use Rattle.link_core.proofs.LinkLaws.{link_out_fed, link_out_burnt, link_log_fed, link_log_burnt}
use Rattle.link_core.proofs.FloorLaws.{link_out_rises, link_out_within, link_out_up_to, link_floor_within}
use Rattle.link_core.proofs.FloorLaws.{link_floor_grows, link_floor_rises, link_floor_from, link_floor_above}
use Rattle.link_core.proofs.FloorLaws.{link_all_at_horizon, link_lost_within}
use Rattle.link_core.proofs.SeenLemmas.{rising_take}
use Rattle.shell_state.specs.declared.spec.DirSpec.{DirSpec}
use Rattle.shell_state.specs.declared.spec.DirSpec.TheVariants.{Pass, Delay, Loss, Link}
use Rattle.shell_state.specs.Shells.{pass, delay, loss, link, meaning}
use Rattle.shell_state.specs.inside.Lawful.{IsLawful}
use Rattle.shell_state.proofs.Counting.{opps_within}
use Rattle.shell_state.proofs.Once.{number-delayed, number-passed, number-link}

unchanged : (l : List Timed) (low : ℕ) → Extends l l low
unchanged l low = record { more = []; is = sym (append-nil l); later = tt }

up_to_min : (m n : ℕ) (ts : List Timed) → AreUpTo m ts → AreUpTo n ts → AreUpTo (min m n) ts
up_to_min m n [] h k = tt
up_to_min m n (t ∷ ts) h k = (omega (arith, h.0, k.0), up_to_min m n ts h.1 k.1)

pass_laws : IsLawful pass
pass_laws = record {
  out_fed = λ h b b' bound l cs i le lic cov r u f s. record { more = cs; is = refl; later = f };
  out_burnt = λ h b b' bound l i le r cov. unchanged l bound;
  out_rises = λ h b l i r. r;
  out_within = λ h b l i u. u;
  out_up_to = λ h b bound l i u. u;
  lost_within = λ h b l u. tt;
  number_once = λ p h b l i. omega arith;
  floor_grows = λ h b b' bound bound' i le le'. le';
  floor_within = λ h b bound le. le;
  floor_rises = λ h b bound i lt. absurd (omega arith);
  floor_from = λ h b bound i le all. omega arith;
  floor_above = λ h b bound i logged le all. absurd logged;
  all_at_horizon = λ h. refl;
  none_unlogged = λ h not. refl;
  log_fed = λ h b b' bound l cs i le lic cov r u f s. ([], refl);
  log_burnt = λ h b b' l i le r cov. ([], refl);
}

delay_laws : (ms : ℕ) → IsLawful (delay ms)
delay_laws ms = record {
  out_fed = λ h b b' bound l cs i le lic cov r u f s. record {
    more = delayed ms h cs;
    is = delayed-append ms h l cs;
    later = from_lower (min (bound + ms) (h + 1)) (bound + ms) _ (omega arith) (from-delayed ms h bound cs f);
  };
  out_burnt = λ h b b' bound l i le r cov. unchanged _ _;
  out_rises = λ h b l i r. rise-delayed ms h l r;
  out_within = λ h b l i u. within-delayed ms h l;
  out_up_to = λ h b bound l i u. up_to_min (bound + ms) (h + 1) _ (up_to-delayed ms h bound l u)
      (up_to_higher h (h + 1) _ (omega arith) (within-delayed ms h l));
  lost_within = λ h b l u. tt;
  number_once = λ p h b l i. let e = number-delayed p ms h l in omega arith;
  floor_grows = λ h b b' bound bound' i le le'. omega arith;
  floor_within = λ h b bound le. omega arith;
  floor_rises = λ h b bound i lt. absurd (omega arith);
  floor_from = λ h b bound i le all. omega arith;
  floor_above = λ h b bound i logged le all. absurd logged;
  all_at_horizon = λ h. refl;
  none_unlogged = λ h not. refl;
  log_fed = λ h b b' bound l cs i le lic cov r u f s. ([], refl);
  log_burnt = λ h b b' l i le r cov. ([], refl);
}

loss_laws : (rate : Rate) (seed stream : ℕ) → IsLawful (loss rate seed stream)
loss_laws rate seed stream = record {
  out_fed = λ h b b' bound l cs i le lic cov r u f s. record {
    more = passed rate.billionths (cha_word seed stream) (0 + length l) cs;
    is = passed-append rate.billionths (cha_word seed stream) 0 l cs;
    later = from-passed rate.billionths (cha_word seed stream) bound (0 + length l) cs f;
  };
  out_burnt = λ h b b' bound l i le r cov. unchanged _ _;
  out_rises = λ h b l i r. rise-passed rate.billionths (cha_word seed stream) 0 l r;
  out_within = λ h b l i u. up_to-passed rate.billionths (cha_word seed stream) h 0 l u;
  out_up_to = λ h b bound l i u. up_to-passed rate.billionths (cha_word seed stream) bound 0 l u;
  lost_within = λ h b l u. up_to-dropped rate.billionths (cha_word seed stream) h 0 l u;
  number_once = λ p h b l i. let e = number-passed p rate.billionths (cha_word seed stream) 0 l in omega arith;
  floor_grows = λ h b b' bound bound' i le le'. le';
  floor_within = λ h b bound le. le;
  floor_rises = λ h b bound i lt. absurd (omega arith);
  floor_from = λ h b bound i le all. omega arith;
  floor_above = λ h b bound i logged le all. absurd logged;
  all_at_horizon = λ h. refl;
  none_unlogged = λ h not. refl;
  log_fed = λ h b b' bound l cs i le lic cov r u f s. ([], refl);
  log_burnt = λ h b b' l i le r cov. ([], refl);
}

link_laws : (trace : TraceView) (once : Bool) (queue : QueueSpec) → IsLawful (link trace once queue)
link_laws trace once queue = record {
  out_fed = λ h b b' bound l cs i le lic cov r u f s.
      link_out_fed queue (opps trace.opportunities once h) h b b' bound l cs (opps_rising trace once h i) le lic cov r u
      f s;
  out_burnt = λ h b b' bound l i le r cov.
      link_out_burnt queue (opps trace.opportunities once h) h b b' l (opps_rising trace once h i) le r cov;
  out_rises = λ h b l i r. link_out_rises queue (opps trace.opportunities once h) b l (opps_rising trace once h i);
  out_within = λ h b l i u.
      link_out_within queue (opps trace.opportunities once h) h b l (opps_rising trace once h i)
      (opps_within trace.opportunities once h);
  out_up_to = λ h b bound l i u.
      link_out_up_to queue (opps trace.opportunities once h) h b l (opps_rising trace once h i)
      (opps_within trace.opportunities once h);
  lost_within = λ h b l u. link_lost_within queue (take b (opps trace.opportunities once h)) h l u;
  number_once = λ p h b l i. number-link p queue (take b (opps trace.opportunities once h)) l
      (rising_take b (opps trace.opportunities once h) (opps_rising trace once h i));
  floor_grows = λ h b b' bound bound' i le le'.
      link_floor_grows (opps trace.opportunities once h) h b b' (opps_rising trace once h i)
      (opps_within trace.opportunities once h) le;
  floor_within = λ h b bound le. link_floor_within (opps trace.opportunities once h) h b
      (opps_within trace.opportunities once h);
  floor_rises = λ h b bound i lt.
      link_floor_rises (opps trace.opportunities once h) h b bound (opps_rising trace once h i)
      (opps_within trace.opportunities once h) lt;
  floor_from = λ h b bound i le all.
      link_floor_from (opps trace.opportunities once h) h b bound (opps_rising trace once h i) le all;
  floor_above = λ h b bound i logged le all.
      link_floor_above (opps trace.opportunities once h) h b bound (opps_rising trace once h i) le all;
  all_at_horizon = λ h. link_all_at_horizon (opps trace.opportunities once h) h
      (opps_within trace.opportunities once h);
  none_unlogged = λ h not. absurd (let e : true ≡ false = not in cc e);
  log_fed = λ h b b' bound l cs i le lic cov r u f s.
      link_log_fed queue (opps trace.opportunities once h) b b' bound l cs (opps_rising trace once h i) le lic cov r u f
      s;
  log_burnt = λ h b b' l i le r cov.
      link_log_burnt queue (opps trace.opportunities once h) b b' l (opps_rising trace once h i) le r cov;
}

pub lawful : (c : DirSpec) → IsLawful (meaning c)
lawful Pass = pass_laws
lawful (Delay ms) = delay_laws ms
lawful (Loss rate seed stream) = loss_laws rate seed stream
lawful (Link trace once queue) = link_laws trace once queue
