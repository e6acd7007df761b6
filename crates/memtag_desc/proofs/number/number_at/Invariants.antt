use Rattle.std.proofs.Common.{◌≡◌, ◌^◌, ◌<◌}
use Rattle.memtag_desc.proofs.Numbers.{Resumes}
use Rattle.memtag_desc.proofs.number.number_at.Given as goal

abbrev pub invariant-loop-k : goal.invariant-loop-k
invariant-loop-k l = record {
  resumes : Resumes l.value l.scale l.k l.place l.total l.rest;
  below : l.value < l.scale;
  scale : l.scale ≡ 128 ^ l.k;
}
