-- The tag stands where its place says, and the octets round it are what the authenticators cover.
use Rattle.std.proofs.Common.{arith}
use Rattle.std.proofs.lemmas.List.{take-take}
use Rattle.radius_carry.specs.Fault.{value_of}
use Rattle.radius_carry.proofs.Places.{cut_whole, covered_by_tag, covered_by_response}
use Rattle.radius_carry.proofs.tags.parts_of.Goals as goal

pub split_at-requires : goal.split_at-requires
split_at-requires c =
    (cut_whole (value_of c.args.view.now) c.args.view.now.whole.now c.requires).room

pub cut_at-cut-requires : goal.cut_at-cut-requires
unfolding value_of
cut_at-cut-requires c =
    rw (c.place_of_tag.ensures, c.split_at.ensures.back)
    (cut_whole (value_of c.args.view.now) c.args.view.now.whole.now c.requires).place

pub returns-clause-tag : goal.returns-clause-tag
unfolding value_of
returns-clause-tag c =
    rw (c.cut_at-cut.ensures.tag, c.place_of_tag.ensures, c.split_at.ensures.back)
    (cut_whole (value_of c.args.view.now) c.args.view.now.whole.now c.requires).tag

pub returns-clause-blank : goal.returns-clause-blank
unfolding value_of
returns-clause-blank c authenticator =
    let front = take-take 4 20 c.args.view.now.whole.now (omega arith) in
    rw (
      c.split_at-2.ensures.front,
      c.split_at.ensures.front,
      front,
      c.cut_at-cut.ensures.before,
      c.cut_at-cut.ensures.after,
      c.place_of_tag.ensures,
      c.split_at.ensures.back,
    )
    (covered_by_tag (value_of c.args.view.now) c.args.view.now.whole.now authenticator c.requires)

pub returns-clause-asked : goal.returns-clause-asked
returns-clause-asked c authenticator secret =
    let front = take-take 4 20 c.args.view.now.whole.now (omega arith) in
    rw (c.split_at-2.ensures.front, c.split_at.ensures.front, front, c.split_at.ensures.back)
    (covered_by_response (value_of c.args.view.now)
    c.args.view.now.whole.now authenticator secret c.requires)
