-- The meaning of each kind of shell, and the functions of a direction over the whole list of its arrivals. Nothing else
-- here says what a shell does.
use Rattle.std.specs.Prelude.{◌≤◌, ◌+◌, ℕ, Bool, true, false, List, [], length, take, min}
use Rattle.text_base.specs.declared.limits.TheConstants.{HOUR}
use Rattle.packet_record.specs.declared.packet.Timed.{Timed}
use Rattle.packet_queue.specs.declared.spec.QueueSpec.{QueueSpec}
use Rattle.trace_reader.specs.declared.opportunity.Opportunity.{Opportunity}
use Rattle.shell_log.specs.declared.entry.Entry.{Entry}
use Rattle.delay_core.specs.Delays.{delayed, kept_inside}
use Rattle.trace_reader.specs.Opps.{opps}
use Rattle.trace_reader.specs.Traces.{IsTrace, TraceView}
use Rattle.link_core.specs.Links.{link_out, link_lost, link_log, link_inside}
use Rattle.link_core.specs.Promises.{floor_of}
use Rattle.loss_core.specs.declared.rate.Rate.{Rate}
use Rattle.loss_core.specs.Losses.{cha_word, dropped, passed}
use Rattle.shell_state.specs.declared.spec.DirSpec.{DirSpec}
use Rattle.shell_state.specs.declared.spec.DirSpec.TheVariants.{Pass, Delay, Loss, Link}
use Rattle.shell_state.specs.Meaning.{Meaning}

-- each packet passes at once
abbrev pub pass : Meaning
pass = record {
  in_range = Unit {0};
  built = Unit {0};
  is_logged = false;
  opportunities = λ h. [];
  out = λ h b arrivals. arrivals;
  lost = λ h b arrivals. [];
  inside = λ h b arrivals. [];
  log = λ h b arrivals. [];
  floor = λ h b bound. bound;
}

-- each packet departs this many milliseconds later
abbrev pub delay : ℕ → Meaning
delay ms = record {
  in_range = ms ≤ HOUR;
  built = ms ≤ HOUR;
  is_logged = false;
  opportunities = λ h. [];
  out = λ h b arrivals. delayed ms h arrivals;
  lost = λ h b arrivals. [];
  inside = λ h b arrivals. kept_inside ms h arrivals;
  log = λ h b arrivals. [];
  floor = λ h b bound. min (bound + ms) (h + 1);
}

-- each packet is dropped at a rate, by the words of a seed and a stream, or passes at once
abbrev pub loss : Rate → ℕ → ℕ → Meaning
loss rate seed stream = record {
  in_range = Unit {0};
  built = Unit {0};
  is_logged = false;
  opportunities = λ h. [];
  out = λ h b arrivals. passed rate.billionths (cha_word seed stream) 0 arrivals;
  lost = λ h b arrivals. dropped rate.billionths (cha_word seed stream) 0 arrivals;
  inside = λ h b arrivals. [];
  log = λ h b arrivals. [];
  floor = λ h b bound. bound;
}

-- packets wait in a queue for the opportunities of a trace, which is played once or again and again
abbrev pub link : TraceView → Bool → QueueSpec → Meaning
link trace once queue = record {
  in_range = Unit {0};
  built = IsTrace trace;
  is_logged = true;
  opportunities = λ h. opps trace.opportunities once h;
  out = λ h b arrivals. link_out queue (take b (opps trace.opportunities once h)) arrivals;
  lost = λ h b arrivals. link_lost queue (take b (opps trace.opportunities once h)) arrivals;
  inside = λ h b arrivals. link_inside queue (take b (opps trace.opportunities once h)) arrivals;
  log = λ h b arrivals. link_log queue (take b (opps trace.opportunities once h)) arrivals;
  floor = λ h b bound. floor_of (opps trace.opportunities once h) h b;
}

abbrev pub meaning : DirSpec → Meaning
meaning Pass = pass
meaning (Delay ms) = delay ms
meaning (Loss rate seed stream) = loss rate seed stream
meaning (Link trace once queue) = link trace once queue

-- the range that a direction's numbers must have
abbrev pub IsInRange : DirSpec → Type 0
IsInRange c = (meaning c).in_range

-- what is true of each direction that was made
abbrev pub IsBuilt : DirSpec → Type 0
IsBuilt c = (meaning c).built

-- The parts of the meaning under names of their own. `Meaning` says what they are.
unfoldable pub opportunities : DirSpec → ℕ → List Opportunity
opportunities c h = (meaning c).opportunities h

unfoldable pub out : DirSpec → ℕ → ℕ → List Timed → List Timed
out c h b arrivals = (meaning c).out h b arrivals

unfoldable pub lost : DirSpec → ℕ → ℕ → List Timed → List Timed
lost c h b arrivals = (meaning c).lost h b arrivals

unfoldable pub inside : DirSpec → ℕ → ℕ → List Timed → List Timed
inside c h b arrivals = (meaning c).inside h b arrivals

unfoldable pub shell_log : DirSpec → ℕ → ℕ → List Timed → List Entry
shell_log c h b arrivals = (meaning c).log h b arrivals

unfoldable pub floor : DirSpec → ℕ → ℕ → ℕ → ℕ
floor c h b bound = (meaning c).floor h b bound

-- with all opportunities
abbrev pub whole_out : DirSpec → ℕ → List Timed → List Timed
whole_out c h arrivals = out c h (length (opportunities c h)) arrivals

abbrev pub whole_lost : DirSpec → ℕ → List Timed → List Timed
whole_lost c h arrivals = lost c h (length (opportunities c h)) arrivals

abbrev pub whole_inside : DirSpec → ℕ → List Timed → List Timed
whole_inside c h arrivals = inside c h (length (opportunities c h)) arrivals

abbrev pub whole_log : DirSpec → ℕ → List Timed → List Entry
whole_log c h arrivals = shell_log c h (length (opportunities c h)) arrivals
