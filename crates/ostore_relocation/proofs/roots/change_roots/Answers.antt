use Rattle.std.proofs.Common.{◌≡◌, List, ℕ, refl, sym, ap, ◌∙◌, arith}
use Rattle.ostore_page_tags.specs.Numbers.{number_at}
use Rattle.ostore_relocation.specs.Places.{root_place}
use Rattle.ostore_base.specs.declared.page.PageImage.{PageImage}
use Rattle.ostore_relocation.specs.Pointers.{with_pointer, pointer_in, with_pointers}
use Rattle.ostore_relocation.proofs.RootLaws.{root_start, root_turns, root_end, free_root, used_root}
use Rattle.ostore_relocation.proofs.roots.change_roots.Goals as goal
use Rattle.ostore_relocation.proofs.roots.change_roots.Goals.{then-get_u8-ne0, else-get_u8-ne0}

pub loop-i-init : goal.loop-i-init
loop-i-init c = root_start (pointer_in c.args.form c.args.space.now.pages) c.args.image.now.bytes 101 refl

pub loop-i-preserved : goal.loop-i-preserved
loop-i-preserved c =
    let change : ℕ → ℕ = pointer_in c.args.form c.args.space.now.pages in
    let old : List ℕ = c.loop-i.image.bytes in
    let read : c.get_u8.result ≡ number_at 1 (root_place c.loop-i.i) old = c.get_u8.ensures ∙ ap (λ (at : ℕ). number_at 1 at old) c.name_length_place.ensures in
    root_turns change c.args.image.now.bytes old c.if-get_u8-ne0.image.bytes _ c.loop-i.i c.loop-i.invariant (omega arith) (omega (arith, c.image_is_whole.ensures))
    (elim c.if-get_u8-ne0.branch [
      | then-get_u8-ne0 w ↦
          ap (λ (image : PageImage). image.bytes) w.image-is ∙ w.change_pointer.ensures ∙ ap (λ (at : ℕ). with_pointer change at old) w.pointer_place.ensures
          ∙ ap (λ (places : List ℕ). with_pointers change places old) (sym (used_root old c.loop-i.i c.get_u8.result read w.if-get_u8-ne0.true))
      | else-get_u8-ne0 w ↦
          ap (λ (image : PageImage). image.bytes) w.image-is
          ∙ ap (λ (places : List ℕ). with_pointers change places old) (sym (free_root old c.loop-i.i c.get_u8.result read w.if-get_u8-ne0.false))
    ])

pub returns : goal.returns
returns c = root_end (pointer_in c.args.form c.args.space.now.pages) c.args.image.now.bytes c.loop-i.image.bytes _ c.loop-i.i c.loop-i.invariant (omega arith)
