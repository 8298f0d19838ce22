use Rattle.std.proofs.Common.{◌∙◌, ℤ, ap, length}
use Rattle.std.specs.Int.{w64, cast_unsigned}
use Rattle.std.proofs.lemmas.Int.{to_z-of_z}
use Rattle.byteorder.specs.Endian.{little_bytes}
use Rattle.ostore_segments.proofs.ListSteps.{Stands-weaker, Becomes-known}
use Rattle.ostore_object_ops.proofs.IntFacts.{can_put, written}
use Rattle.ostore_object_ops.proofs.members.store_int.Goals as goal

pub edit_cell-requires-clause-there : goal.edit_cell-requires-clause-there
edit_cell-requires-clause-there g c =
    Stands-weaker (λ list has. can_put c.args.schema.now c.args.found list has _ c.requires.suits.sizes c.requires.suits.pointers _ (ap (λ bytes. length bytes) c.to_le_bytes.ensures)) c.requires.stands

pub returns-clause-lists : goal.returns-clause-lists
returns-clause-lists g c =
    Becomes-known c.requires.stands
    (λ old new has is. written c.args.schema.now c.args.found old has c.args.value c.to_le_bytes.result new c.ranges.value (c.to_le_bytes.ensures ∙ ap (λ (v : ℤ). little_bytes 8 (cast_unsigned w64 v)) (to_z-of_z w64 c.args.value c.ranges.value)) (ap (λ bytes. length bytes) c.to_le_bytes.ensures) is)
    c.in_ok-edit_cell.ensures.lists
