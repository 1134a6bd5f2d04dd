use Rattle.std.proofs.Common.{◌∙◌, ap, sym}
use Rattle.packet_record.specs.declared.reach.Reach.{Reach}
use Rattle.sender_merge.proofs.Thinning.{fresh-thin}
use Rattle.sender_merge.proofs.thin_merge.ThinMerge.new.Goals as goal

pub returns : goal.returns
returns c = record {
  senders = c.in_ok-list.ensures ∙ sym (fresh-thin c.args.senders);
  bound = ap (λ (r : Reach). r.bound) c.new.ensures;
  end = ap (λ (r : Reach). r.end) c.new.ensures;
}
