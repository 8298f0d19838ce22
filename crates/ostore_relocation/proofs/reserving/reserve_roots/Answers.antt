use Rattle.std.proofs.Common.{◌≡◌, ◌+◌, ◌-◌, ◌++◌, List, [], ◌∷◌, ℕ, refl, sym, ap, subst, ◌∙◌, arith}
use Rattle.std.specs.Prelude.{is_ok}
use Rattle.std.specs.List.{flat_map, range_with_len}
use Rattle.ostore_page_tags.specs.Numbers.{number_at}
use Rattle.ostore_address_space.specs.Frames.{Frames}
use Rattle.ostore_base.specs.declared.numbers.PageNo.{PageNo}
use Rattle.ostore_relocation.specs.Places.{root_place, root_pointer, root_pointers}
use Rattle.ostore_relocation.specs.Reserving.{Reserves, target_of, targets_of}
use Rattle.ostore_relocation.proofs.RootLaws.{roots_are, roots_split, free_root, used_root}
use Rattle.ostore_relocation.proofs.ReserveLaws.{PlacesLeft, places_start, places_ok, places_none, one_target}
use Rattle.ostore_relocation.proofs.reserving.reserve_roots.Goals as goal
use Rattle.ostore_relocation.proofs.reserving.reserve_roots.Goals.{then-get_u8-ne0+in_ok-reserve_target, else-get_u8-ne0}

pub loop-i-init : goal.loop-i-init
loop-i-init g c = places_start (g.M.Mapper.choice c.args.mapper.now) c.args.space.now c.args.image.now.bytes _ (root_pointers c.args.image.now.bytes) c.requires.targets (roots_are c.args.image.now.bytes 101 refl)

pub loop-i-preserved : goal.loop-i-preserved
loop-i-preserved g c =
    let choice = g.M.Mapper.choice c.args.mapper.now in
    let bytes : List ℕ = c.args.image.now.bytes in
    let i : ℕ = c.loop-i.i in
    let read : c.get_u8.result ≡ number_at 1 (root_place i) bytes = c.get_u8.ensures ∙ ap (λ (at : ℕ). number_at 1 at bytes) c.name_length_place.ensures in
    let at : ℕ = root_place i + 32 in
    let all : List PageNo = targets_of bytes (root_pointers bytes) in
    let rest : List ℕ = flat_map (root_pointer bytes) (range_with_len (i + 1) (101 - (i + 1))) in
    let split = roots_split bytes i (omega arith) in
    elim c.if-get_u8-ne0.branch [
      | then-get_u8-ne0+in_ok-reserve_target w ↦
          let used = used_root bytes i c.get_u8.result read w.if-get_u8-ne0.true in
          subst (λ (f : Frames). PlacesLeft choice c.args.space.now f bytes rest all) (sym w.space-is)
          (places_ok choice c.args.space.now c.loop-i.space w.reserve_target.new.space bytes _ (at ∷ []) rest all w.reserve_target.result c.loop-i.invariant (split ∙ ap (λ (l : List ℕ). l ++ rest) used)
          (subst (λ (l : List PageNo). Reserves choice c.loop-i.space w.reserve_target.new.space l w.reserve_target.result) (ap target_of (w.get_pointer.ensures ∙ ap (λ (at : ℕ). number_at 4 at bytes) w.pointer_place.ensures) ∙ sym (one_target bytes at)) w.reserve_target.ensures)
          (ap is_ok w.in_ok-reserve_target.was))
      | else-get_u8-ne0 w ↦
          subst (λ (f : Frames). PlacesLeft choice c.args.space.now f bytes rest all) (sym w.space-is)
          (places_none choice c.args.space.now c.loop-i.space bytes _ rest all c.loop-i.invariant (split ∙ ap (λ (l : List ℕ). l ++ rest) (free_root bytes i c.get_u8.result read w.if-get_u8-ne0.false)))
    ]
