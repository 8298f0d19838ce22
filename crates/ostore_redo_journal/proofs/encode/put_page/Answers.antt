use Rattle.std.proofs.Common.{◌≡◌, ◌+◌, ◌∙◌, ℕ, List, ap, arith}
use Rattle.std.specs.Int.{w32, to_le_bytes}
use Rattle.ostore_base.specs.Disk.{replaced}
use Rattle.ostore_redo_journal.proofs.Stored.{replaced_twice}
use Rattle.ostore_redo_journal.proofs.encode.put_page.Goals as goal

pub returns-clause-put : goal.returns-clause-put
returns-clause-put c =
    let at = c.args.at in
    let number : c.to_le_bytes.result ≡ to_le_bytes w32 c.args.page.0 = c.to_le_bytes.ensures in
    let image = c.args.image.now.bytes in
    let twice : replaced (at + 4) image (replaced at (to_le_bytes w32 c.args.page.0) c.args.bytes.now) ≡ _ = replaced_twice at (to_le_bytes w32 c.args.page.0) image c.args.bytes.now (omega arith) in
    c.put_bytes-2.ensures ∙ ap (replaced (at + 4) image) c.put_bytes.ensures ∙ ap (λ (l : List ℕ). replaced (at + 4) image (replaced at l c.args.bytes.now)) number ∙ twice
