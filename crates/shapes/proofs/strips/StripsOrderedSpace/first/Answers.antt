use Rattle.std.proofs.Common.{rules, sym, refl}
use lib.Signed.{lt_z}
use Rattle.std.proofs.lemmas.List.Sorted.{IsPartitionPoint-from_clause}
use Rattle.std.proofs.lemmas.Option.{slice_get_past, slice_get_read}
use Rattle.shapes.specs.Strips.{no_strip_point}
use Rattle.shapes.proofs.Fronts.{front_ends}
use Rattle.shapes.proofs.Orders.{strips_ordered, below_parted}
use Rattle.shapes.proofs.strips.StripsOrderedSpace.first.Goals as goal

pub returns-in-Some-clause-value : goal.returns-in-Some-clause-value
returns-in-Some-clause-value c =
    let a = c.in-Some.strip.now.a in
    let there = slice_get_read c.args.self.now.ranges.now _ c.args.j.0 c.in-Some.strip.now refl c.in-Some.ensures.lookup.3.0 c.in-Some.ensures.lookup.1 in
    let point = IsPartitionPoint-from_clause (λ p. lt_z p.x a) _ _ c.partition_point.ensures.partitioned (below_parted _ c.args.self.now.ordered a) (λ e r q k. search rules) in
    rw there (sym (front_ends (λ p. lt_z p.x a) _ no_strip_point _ c.partition_point.ensures.bound point))

pub returns-in-Some-clause-order : goal.returns-in-Some-clause-order
returns-in-Some-clause-order c = strips_ordered _ _ c.args.self.now.ordered

pub returns-in-None-clause-value : goal.returns-in-None-clause-value
returns-in-None-clause-value c = rw (slice_get_past c.args.self.now.ranges.now c.args.j.0 c.in-None.ensures.lookup.3) refl

pub returns-in-None-clause-order : goal.returns-in-None-clause-order
returns-in-None-clause-order c = strips_ordered _ _ c.args.self.now.ordered
