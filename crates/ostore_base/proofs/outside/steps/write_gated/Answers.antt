use Rattle.std.proofs.Common.{ℕ, ◌+◌, ◌≡◌, List, length, Option, Some, None, inl, inr, subst}
use Rattle.std.specs.Option.{option_map}
use Rattle.ostore_base.specs.Disk.{replaced, IsTornRange}
use Rattle.ostore_base.specs.Images.{OfTold}
use Rattle.ostore_base.specs.Images.{IsTornAtGate}
use Rattle.ostore_base.proofs.MomentLemmas.{goes_then, leaves_weaker}
use Rattle.ostore_base.proofs.outside.steps.write_gated.Goals as goal

behind_torn : (told : Option (List ℕ)) (gate : ℕ) (behind : List ℕ) (c : List ℕ) → OfTold told (IsTornRange (gate + 1) (length behind)) c → OfTold told (IsTornAtGate gate behind) c
behind_torn None gate behind c torn = tt
behind_torn (Some held) gate behind c torn = inl torn

gate_torn : (told mid : Option (List ℕ)) (gate : ℕ) (behind : List ℕ) (c : List ℕ) → mid ≡ option_map (replaced (gate + 1) behind) told → OfTold mid (IsTornRange gate 1) c → OfTold told (IsTornAtGate gate behind) c
gate_torn None mid gate behind c is torn = tt
gate_torn (Some held) mid gate behind c is torn = inr (subst (λ (m : Option (List ℕ)). OfTold m (IsTornRange gate 1) c) is torn)

pub returns-in_err-write_synced-clause-any_moment : goal.returns-in_err-write_synced-clause-any_moment
returns-in_err-write_synced-clause-any_moment g c =
    let told = g.D.Disk.content c.args.disk.now in
    leaves_weaker g.D.Disk.moment g.D.Disk.left_since c.args.disk.now c.write_synced.new.disk _ (OfTold told (IsTornAtGate c.args.gate c.args.behind.now)) c.write_synced.ensures.any_moment (behind_torn told c.args.gate c.args.behind.now)

pub returns-clause-any_moment : goal.returns-clause-any_moment
returns-clause-any_moment g c =
    let told = g.D.Disk.content c.args.disk.now in
    let P = OfTold told (IsTornAtGate c.args.gate c.args.behind.now) in
    let first = leaves_weaker g.D.Disk.moment g.D.Disk.left_since c.args.disk.now c.write_synced.new.disk _ P c.write_synced.ensures.any_moment (behind_torn told c.args.gate c.args.behind.now) in
    let second = leaves_weaker g.D.Disk.moment g.D.Disk.left_since c.write_synced.new.disk c.write_synced-2.new.disk _ P c.write_synced-2.ensures.any_moment
    (λ f torn. gate_torn told _ c.args.gate c.args.behind.now f c.in_ok-write_synced.ensures.written torn) in
    goes_then g.D.Disk.moment g.D.Disk.left_since c.args.disk.now c.write_synced.new.disk c.write_synced-2.new.disk P first second
