-- What the stated words say.
use Rattle.std.proofs.Common.{◌≡◌, ℕ, ◌+◌, ◌≤◌, false, List, [], ◌∷◌, Some, None, Ok, Err, length, codes}
use Rattle.std.proofs.Common.{refl, ap, sym, subst, ◌∙◌, arith}
use Rattle.packet_queue.specs.declared.spec.QueueKind.TheVariants.{DropTail, DropHead}
use Rattle.trace_reader.specs.declared.trace.Trace.{Trace}
use Rattle.trace_reader.specs.Made.{made_moments}
use Rattle.trace_reader.specs.Opps.{opps}
use Rattle.packet_record.specs.Draws.{draw_start}
use Rattle.nest_spec.specs.declared.error.NestError.{NestError}
use Rattle.nest_spec.specs.declared.shell.Shell.TheVariants.{Delay, Link}
use Rattle.nest_spec.specs.Words.{Text, NestPlan, nest_of, shells_from, link_from}
use Rattle.nest_spec.specs.Nests.{opportunities_of}
use Rattle.command_report.specs.Made.{made_words}
use Rattle.command_report.proofs.TraceLemmas.{few_made, moments}

abbrev pub made_plan : NestPlan
made_plan = record {
  shells = Delay 20
      ∷ Link false
      (record { queue = record { kind = DropTail; packets = Some 50; bytes = None }; logged = false })
      (record { queue = record { kind = DropHead; packets = None; bytes = Some 60000 }; logged = false })
      ∷ [];
  traces = codes "T" ∷ codes "T" ∷ [];
  logs = [];
}

pub words_state : nest_of made_words ≡ Ok made_plan
unfolding shells_from link_from
words_state = refl

pub no_refusal : (words : List Text) (e : NestError) → words ≡ made_words → nest_of words ≡ Err e → ⊥
no_refusal words e same refused =
    let err : Ok made_plan ≡ Err e = sym words_state ∙ sym (ap nest_of same) ∙ refused in
    cc

pub same_plan : (plan : NestPlan) → nest_of made_words ≡ Ok plan → plan ≡ made_plan
same_plan plan read =
    let ok : Ok plan ≡ Ok made_plan = sym read ∙ words_state in
    cc

pub two_traces : (plan : NestPlan) → nest_of made_words ≡ Ok plan → length plan.traces ≡ 2
two_traces plan read = ap (λ (p : NestPlan). length p.traces) (same_plan plan read)

pub few_opportunities : (number h : ℕ) (plan : NestPlan) (trace : Trace) → nest_of made_words ≡ Ok plan
    → moments trace.opportunities ≡ made_moments number → h ≤ 3001000
    → opportunities_of h plan.shells (trace ∷ trace ∷ []) ≤ 16000000
few_opportunities number h plan trace read made most =
    let few : length (opps trace.opportunities false h) ≤ 4000000 = few_made (draw_start number) 100 h
    trace.opportunities made refl most in
    let twice : length (opps trace.opportunities false h) + length (opps trace.opportunities false h) + 0 ≤ 16000000 =
    omega arith in
    subst (λ (p : NestPlan). opportunities_of h p.shells (trace ∷ trace ∷ []) ≤ 16000000) (sym (same_plan plan read))
    twice
