-- A trace as its callers see it, and what holds of each.
use Rattle.std.specs.Prelude.{◌≡◌, ◌<◌, ◌≤◌, List, length}
use Rattle.text_base.specs.declared.limits.TheConstants.{GREATEST_MOMENT, MOST_LINES}
use Rattle.trace_reader.specs.declared.opportunity.Opportunity.{Opportunity}
use Rattle.trace_reader.specs.declared.opportunity.TraceForm.{TraceForm}
use Rattle.trace_reader.specs.declared.opportunity.TraceForm.TheVariants.{Moments, MomentsAndBytes}
use Rattle.trace_reader.specs.Orders.{Each, AreRising}
use Rattle.trace_reader.specs.Opps.{last_moment}

pub record TraceView : Type 0 where
  pub form : TraceForm
  pub opportunities : List Opportunity

-- in the form of moments alone each opportunity has 1504 bytes
abbrev pub AreOfForm : TraceForm → List Opportunity → Type 0
AreOfForm Moments opps = Each (λ o. o.bytes ≡ 1504) opps
AreOfForm MomentsAndBytes opps = Unit {0}

pub record IsTrace (t : TraceView) : Type 0 where
  pub some : 0 < length t.opportunities
  pub few : length t.opportunities ≤ MOST_LINES
  pub rising : AreRising t.opportunities
  pub last_some : 0 < last_moment t.opportunities
  pub last_most : last_moment t.opportunities ≤ GREATEST_MOMENT
  pub bytes : AreOfForm t.form t.opportunities
