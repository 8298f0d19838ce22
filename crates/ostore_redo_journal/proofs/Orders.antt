-- How a journal stays in order.
use Rattle.std.proofs.Common.{◌≡◌, ◌≢◌, ◌⊎◌, inl, inr, ℕ, ◌+◌, ◌*◌, ◌<◌, ◌≤◌, ◌^◌, List, [], ◌∷◌, ◌++◌, length, take, drop, Option, Some, None, IfSome, is_some, false, true, true≢false, refl, sym, ◌∙◌, ap, subst, arith, length-append}
use Rattle.std.specs.Option.{option_map}
use Rattle.ostore_base.specs.Disk.{replaced}
use Rattle.ostore_base.specs.Images.{Keeps, IsSure, OfTold, IsTornAtGate, opened_at}
use Rattle.ostore_base.proofs.DiskLemmas.{length-replaced}
use Rattle.ostore_redo_journal.specs.Records.{Logged, behind_gate, IsLawful}
use Rattle.ostore_redo_journal.proofs.RoundTrips.{length_behind}

-- a torn disk is no shorter
pub torn_long : (gate : ℕ) (behind held c : List ℕ) → gate < length held → IsTornAtGate gate behind held c → gate < length c
torn_long gate behind held c inside (inl torn) = omega (arith, inside, torn.no_shorter)
torn_long gate behind held c inside (inr torn) = omega (arith, inside, torn.no_shorter, length-replaced (gate + 1) behind held (omega (arith, inside)))

-- what a disk reads as after a call that failed is as long as the place of its gate asks
pub still_inside : (told new : Option (List ℕ)) (gate : ℕ) (behind : List ℕ) (P : List ℕ → Type 0) → IfSome told (λ held. gate < length held) → is_some new ≡ is_some told → IfSome new P → ((c : List ℕ) → P c → OfTold told (IsTornAtGate gate behind) c) → IfSome new (λ held. gate < length held)
still_inside told None gate behind P inside tells reads each = tt
still_inside None (Some new) gate behind P inside tells reads each = absurd (true≢false tells)
still_inside (Some held) (Some new) gate behind P inside tells reads each = torn_long gate behind held new inside (each new reads)

-- the same, of a record
pub still_next : (told new : Option (List ℕ)) (gate limit g n : ℕ) (r : Logged) (P : List ℕ → Type 0) → IsLawful limit r → IfSome told (λ held. gate < length held) → is_some new ≡ is_some told → IfSome new P → ((c : List ℕ) → P c → OfTold told (IsTornAtGate gate (behind_gate g n r ++ 0 ∷ [])) c) → IfSome new (λ held. gate < length held)
still_next told new gate limit g n r P lawful inside tells reads each = still_inside told new gate (behind_gate g n r ++ 0 ∷ []) P inside tells reads each

-- the gate behind the record lies within the disk
pub next_inside : (told new : Option (List ℕ)) (gate size : ℕ) (behind : List ℕ) → IfSome told (λ held. gate < length held) → new ≡ option_map (opened_at gate behind) told → size + 1 ≤ length behind + 1 → IfSome new (λ held. gate + size < length held)
next_inside None new gate size behind inside is short = subst (λ (o : Option (List ℕ)). IfSome o (λ held. gate + size < length held)) (sym is) tt
next_inside (Some held) new gate size behind inside is short =
    let mid = replaced (gate + 1) behind held in
    let long : length mid ≡ Rattle.std.proofs.Common.max (length held) (gate + 1 + length behind) = length-replaced (gate + 1) behind held (omega (arith, inside)) in
    let all : length (replaced gate (1 ∷ []) mid) ≡ Rattle.std.proofs.Common.max (length mid) (gate + 1) = length-replaced gate (1 ∷ []) mid (omega (arith, inside, long)) in
    subst (λ (o : Option (List ℕ)). IfSome o (λ b. gate + size < length b)) (sym is) (omega (arith, all, long, short))

-- how long a record is with the closed gate behind it
pub sized : (limit g n : ℕ) (r : Logged) (len : ℕ) → IsLawful limit r → len ≡ length r.pages → 21 + 4100 * len ≡ length (behind_gate g n r ++ 0 ∷ [])
sized limit g n r len lawful is = omega (arith, is, length_behind g n r lawful.whole, length-append (behind_gate g n r) (0 ∷ []))

-- a disk that is only read stays sure
pub stays_sure : (told new : Option (List ℕ)) (images later : List ℕ → Type 0) → new ≡ told → Keeps images later → IsSure told images → IsSure new later
stays_sure told new images later same keeps sure =
    subst (λ (o : Option (List ℕ)). IsSure o later) (sym same) (fewer told sure)
  where
    fewer : (told : Option (List ℕ)) → IsSure told images → IsSure told later
    fewer None all = tt
    fewer (Some held) all = λ image left. all image (keeps image left)

-- what holds of one telling holds of the same
pub over : (told new : Option (List ℕ)) (P : List ℕ → Type 0) → new ≡ told → IfSome told P → IfSome new P
over told new P same holds = subst (λ (o : Option (List ℕ)). IfSome o P) (sym same) holds
