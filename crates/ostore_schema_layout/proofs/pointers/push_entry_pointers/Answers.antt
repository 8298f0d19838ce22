use Rattle.ostore_schema_layout.specs.Cells.{chunk_of}
use Rattle.ostore_schema_layout.proofs.places.PointerLaws.{one_more_entry}
use Rattle.ostore_schema_layout.proofs.pointers.push_entry_pointers.Goals as goal

pub loop-i-preserved : goal.loop-i-preserved
loop-i-preserved c =
    let form = c.chunk_form-form.ensures in
    one_more_entry (chunk_of c.args.code) c.loop-i.i _ _ c.args.places.now.items c.loop-i.places.items c.push.new.self.items (rw form.pointer_at at c.first-first.ensures) form.entry_size c.loop-i.invariant c.in_ok-push.ensures.items
