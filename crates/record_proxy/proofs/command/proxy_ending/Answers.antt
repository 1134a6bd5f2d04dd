use Rattle.std.proofs.Common.{map, string_bytes}
use Rattle.command_ends.specs.Answers.{cause_in}
use Rattle.command_ends.proofs.TopLemmas.{refuses_by_words, top_call}
use Rattle.record_proxy.specs.Proxying.{net_counts, proxy_work}
use Rattle.record_proxy.proofs.CommandLemmas.{ends_status, proxy_status, proxy_words_first, proxy_words_one}
use Rattle.record_proxy.proofs.command.proxy_ending.Goals as goal

pub returns-clause-top : goal.returns-clause-top
returns-clause-top g c =
    let answered = c.answer-answer.ensures in
    top_call (proxy_work g.P.Conn.Link.view g.X.Conn.Link.view) _ _ _ _ (g.O.Sink.view c.answer-answer.new.out) _
    (cause_in c.answer-answer.result) c.conclude-status.result answered.ends c.conclude-status.ensures
    net_counts (proxy_words_one (map string_bytes c.args.words.now)) (λ job rose. rose)
    answered.alone answered.counts answered.out_counts answered.keeps

pub returns-clause-usage : goal.returns-clause-usage
returns-clause-usage g c =
    refuses_by_words (proxy_work g.P.Conn.Link.view g.X.Conn.Link.view) _ _ _ _
    (g.O.Sink.view c.answer-answer.new.out) (g.O.Sink.view c.conclude-status.new.out) (cause_in c.answer-answer.result)
    c.conclude-status.result c.answer-answer.ensures.ends c.conclude-status.ensures
    (proxy_words_first (map string_bytes c.args.words.now))

pub returns-clause-statuses : goal.returns-clause-statuses
returns-clause-statuses g c =
    proxy_status c.conclude-status.result (cause_in c.answer-answer.result)
    (ends_status g.P.Conn.Link.view g.X.Conn.Link.view (map string_bytes c.args.words.now) _ _
    (cause_in c.answer-answer.result) c.answer-answer.ensures.ends)
    c.conclude-status.ensures.status_is

pub returns-clause-ending : goal.returns-clause-ending
returns-clause-ending g c = record {
  ended = g.O.Sink.view c.answer-answer.new.out;
  ends = c.answer-answer.ensures.ends;
  concludes = c.conclude-status.ensures;
}
