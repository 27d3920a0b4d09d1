-- Each of the two walks answers as the definition's does, and past both the lines are written as it says.
use Rattle.glintstring.proofs.DeriveLaws.{narrow_hand, walked_stops, walked_wide, narrow_verified, walked_written}
use Rattle.glintstring.proofs.derives.derive_walked.Goals as goal

pub returns-then-walked-ne-VERIFIED : goal.returns-then-walked-ne-VERIFIED
returns-then-walked-ne-VERIFIED c = let walked = rw (c.of.ensures.bytes, c.of.ensures.notes) at c.walk_plan-walked.ensures in search walked_stops

pub of-narrowed-requires : goal.of-narrowed-requires
of-narrowed-requires c = search narrow_hand

pub returns-then-narrow-ne-VERIFIED : goal.returns-then-narrow-ne-VERIFIED
returns-then-narrow-ne-VERIFIED c = let walked = rw (c.of.ensures.bytes, c.of.ensures.notes) at c.walk_plan-walked.ensures in let narrow = rw (c.of-narrowed.ensures.bytes, c.of-narrowed.ensures.notes) at c.walk_plan-narrow.ensures in walked_wide _ _ _ _ c.requires.t_value_3 c.requires.t_value c.requires.t_value_2 _ _ _ walked c.if-walked-ne-VERIFIED.false c.requires.t_len _ c.put.ensures _ _ _ narrow c.if-narrow-ne-VERIFIED.true

pub write_lines-requires : goal.write_lines-requires
write_lines-requires c = let narrow = rw (c.of-narrowed.ensures.bytes, c.of-narrowed.ensures.notes) at c.walk_plan-narrow.ensures in rw (c.of-narrowed.ensures.bytes, c.of-narrowed.ensures.notes) (narrow_verified _ _ _ c.requires.t_value c.requires.t_len _ c.put.ensures _ _ _ narrow c.if-narrow-ne-VERIFIED.false)

pub returns : goal.returns
returns c = let walked = rw (c.of.ensures.bytes, c.of.ensures.notes) at c.walk_plan-walked.ensures in let narrow = rw (c.of-narrowed.ensures.bytes, c.of-narrowed.ensures.notes) at c.walk_plan-narrow.ensures in let lines = rw (c.of-narrowed.ensures.bytes, c.of-narrowed.ensures.notes) at c.write_lines.ensures in walked_written _ _ _ _ c.requires.t_value_3 c.requires.t_value c.requires.t_value_2 _ _ _ walked c.if-walked-ne-VERIFIED.false c.requires.t_len _ c.put.ensures _ _ _ narrow c.if-narrow-ne-VERIFIED.false _ _ lines
