-- A disk's counts over one call after another.
use Rattle.std.proofs.Common.{refl, ◌∙◌, arith}
use Rattle.mm_base.specs.Disk.{DiskView, OnlyReads, OnlyWrites}
use Rattle.command_ends.specs.Answers.{CountsDisk}

pub counts_none : (disk : DiskView) → CountsDisk disk disk
counts_none disk = record {
  asks = omega arith;
  reads = omega arith;
  writes = omega arith;
  lacks = omega arith;
  steady = λ h. (h, refl, refl);
}

pub counts_reads : {old new : DiskView} → OnlyReads old new → CountsDisk old new
counts_reads {old} {new} r = record {
  asks = r.asks;
  reads = r.reads;
  writes = let e = r.writes in omega arith;
  lacks = r.lacks;
  steady = λ h. let s = r.steady h in (s.0, s.1, r.writes);
}

pub counts_writes : {old new : DiskView} → OnlyWrites old new → CountsDisk old new
counts_writes {old} {new} w = record {
  asks = let e = w.asks in omega arith;
  reads = let e = w.reads in omega arith;
  writes = w.writes;
  lacks = let e = w.lacks in omega arith;
  steady = λ h. let s = w.steady h in (s.0, w.reads, s.1);
}

pub counts_then : {a b c : DiskView} → CountsDisk a b → CountsDisk b c → CountsDisk a c
counts_then p q = record {
  asks = omega arith;
  reads = omega arith;
  writes = omega arith;
  lacks = omega arith;
  steady = λ h. let s = p.steady h in let t = q.steady s.0 in (t.0, t.1 ∙ s.1, t.2 ∙ s.2);
}

pub reads_none : (disk : DiskView) → OnlyReads disk disk
reads_none disk = record {
  same_files = refl;
  asks = omega arith;
  reads = omega arith;
  writes = refl;
  lacks = omega arith;
  steady = λ h. (h, refl);
}
