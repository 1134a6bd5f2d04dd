use Rattle.std.proofs.Common.{subst, sym, arith}
use Rattle.shell_workers.specs.StreamParts.{IsStreamed}
use Rattle.shell_workers.proofs.Streamed.{none_refused, on_ok, refused_streamed, some_refused, whole_streamed}
use Rattle.shell_workers.proofs.streaming.stream_source.Goals as goal

pub returns-then-is_refused-clause-text : goal.returns-then-is_refused-clause-text
returns-then-is_refused-clause-text g c =
    let told = (g.D.Disk.view c.args.disk.now).files in
    let old = c.args.file.now in
    let mid = c.stream_pieces.new.file in
    let read = c.in-Ok.ensures.front in
    let most = read.reading.1 in
    on_ok c.skip.result (IsStreamed told old.place.name.now c.skip.new.self.text)
    (subst (λ text. IsStreamed told old.place.name.now text) (sym c.skip.ensures.text)
    (refused_streamed told old.place.name.now old.place.size mid.place.at old.text mid.text c.requires.size
    (omega (arith, most, read.size)) c.requires.unread.2 read.front
    (some_refused mid.text.gathered.refused c.is_refused.result c.if-is_refused.true c.is_refused.ensures)))

pub returns-clause-text : goal.returns-clause-text
returns-clause-text g c =
    let old = c.args.file.now in
    let mid = c.stream_pieces.new.file.text in
    whole_streamed (g.D.Disk.view c.args.disk.now).files old.place.name.now old.place.size old.text mid
    c.end_stream.new.text c.requires.size c.requires.unread.2
    (c.in-Ok.ensures.whole
    (none_refused mid.gathered.refused c.is_refused.result c.if-is_refused.false c.is_refused.ensures))
    c.end_stream.ensures.all
