-- Three words more.
use Rattle.text_tables.proofs.NamedUsers.{group_reads, group_fails, group_adds, group_stays}
use Rattle.text_tables.proofs.user_words.+read_users.Goals as goal

pub returns-then-add_named-clause-named : goal.returns-then-add_named-clause-named
returns-then-add_named-clause-named t c =
    rw (
      c.in-Some.ensures.cases.0,
      c.in-Some-split_first.ensures.cases.0,
      c.in-Some-split_first-2.ensures.cases.0,
    )
    (group_reads _ _ _ _ _ _ _
    (rw (
      c.if-add_named.true,
      c.as_bytes.ensures.value,
      c.as_bytes-in-Some-split_first-2.ensures.value,
      c.as_bytes-in-Some-split_first-2-2.ensures.value,
    ) at c.add_named.ensures.named)
    c.read_users.ensures.named)

pub returns-then-add_named-clause-added : goal.returns-then-add_named-clause-added
returns-then-add_named-clause-added t c =
    rw (
      c.in-Some.ensures.cases.0,
      c.in-Some-split_first.ensures.cases.0,
      c.in-Some-split_first-2.ensures.cases.0,
    )
    (group_adds _ _ _ _ _ _ _
    (rw (
      c.if-add_named.true,
      c.as_bytes.ensures.value,
      c.as_bytes-in-Some-split_first-2.ensures.value,
      c.as_bytes-in-Some-split_first-2-2.ensures.value,
    ) at c.add_named.ensures.named)
    c.read_users.ensures.added)

pub returns-else-add_named-clause-named : goal.returns-else-add_named-clause-named
returns-else-add_named-clause-named t c =
    rw (
      c.in-Some.ensures.cases.0,
      c.in-Some-split_first.ensures.cases.0,
      c.in-Some-split_first-2.ensures.cases.0,
    )
    (group_fails _ c.add_named.new.users _ _ _ _
    (rw (
      c.if-add_named.false,
      c.as_bytes.ensures.value,
      c.as_bytes-in-Some-split_first-2.ensures.value,
      c.as_bytes-in-Some-split_first-2-2.ensures.value,
    ) at c.add_named.ensures.named))

pub returns-else-add_named-clause-added : goal.returns-else-add_named-clause-added
returns-else-add_named-clause-added t c =
    rw (
      c.in-Some.ensures.cases.0,
      c.in-Some-split_first.ensures.cases.0,
      c.in-Some-split_first-2.ensures.cases.0,
    )
    (group_stays _ c.add_named.new.users _ _ _ _ _
    (rw (
      c.if-add_named.false,
      c.as_bytes.ensures.value,
      c.as_bytes-in-Some-split_first-2.ensures.value,
      c.as_bytes-in-Some-split_first-2-2.ensures.value,
    ) at c.add_named.ensures.named)
    (c.add_named.ensures.unchanged c.if-add_named.false))
