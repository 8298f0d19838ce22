use Rattle.std.proofs.Common.{◌≡◌, ◌+◌, ◌*◌, ℕ, List, take, drop, Option, Some, None, IfSome, ◌∙◌, ap, subst}
use Rattle.ostore_redo_journal.specs.Records.{u16_at}
use Rattle.ostore_redo_journal.specs.inside.Bytes.{IsRecord, IsCounted}
use Rattle.ostore_redo_journal.proofs.scanning.read_counted.Goals as goal

-- what holds of bytes that were read holds of the bytes there
of_range : (told : Option (List ℕ)) (bs : List ℕ) (size n at : ℕ) (P : List ℕ → Type 0) → size ≡ n → IfSome told (λ held. bs ≡ take size (drop at held)) → P bs → IfSome told (λ held. P (take n (drop at held)))
of_range None bs size n at P same is right = tt
of_range (Some held) bs size n at P same is right = subst P (is ∙ ap (λ (k : ℕ). take k (drop at held)) same) right

pub returns-clause-good : goal.returns-clause-good
returns-clause-good g c is =
    of_range (g.D.Disk.content c.args.disk.now) c.read.new.into _ (20 + 4100 * c.args.count) c.args.at (λ bs. IsCounted c.args.header.pages c.args.header.generation c.args.number c.args.count bs) c.is_counted.ensures.size c.in_ok-read.ensures.bytes (c.is_counted.ensures.good is)

pub returns-clause-bad : goal.returns-clause-bad
returns-clause-bad g c is =
    of_range (g.D.Disk.content c.args.disk.now) c.read.new.into _ (20 + 4100 * c.args.count) c.args.at (λ bs. u16_at bs 18 ≡ c.args.count → IsRecord c.args.header.pages c.args.header.generation c.args.number bs → ⊥) c.is_counted.ensures.size c.in_ok-read.ensures.bytes (c.is_counted.ensures.bad is)
