-- `record::gather::gather`: what its loop keeps. Assumes nothing.
use Rattle.form.specs.Request.{kind}
use Rattle.record.proofs.Gathers.{Gathering}
use Rattle.record.proofs.gather.gather.Given as goal

abbrev pub invariant-loop-k : goal.invariant-loop-k
invariant-loop-k l = Gathering l.line (kind l.request) l.place l.expected l.initial.minus l.initial.sizes l.at l.k l.minus l.sizes
