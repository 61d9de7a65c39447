-- How a player moves on in a track.
use Rattle.std.proofs.Common.{◌≡◌, ℕ, suc, ◌+◌, ◌-◌, ◌*◌, ◌/◌, ◌%◌, ◌<◌, ◌≤◌, ◌⊎◌, inr, true, false, length, refl, ap, ◌∙◌, arith}
use Rattle.std.proofs.Math.Nat.{mul-le-mul_left, mul-div_cancel_left, mul-mod_right, div-add-mod}
use Rattle.std.proofs.lemmas.Bool.{eq-eqb, ne_eqb, eqb-true, leb-true, ltb-true, le-leb, lt-ltb, and_parts, and_from}
use Rattle.machine_core.specs.Decoder.{Decoder}
use Rattle.player_model.specs.declared.position.Position.{Position}
use Rattle.player_model.specs.Format.{Format, ends, repeats}
use Rattle.player_model.specs.Player.{is_last, register_after, moved}
use Rattle.player_model.specs.Track.{Track, repeats_at, is_block, end_register}
use Rattle.player_model.specs.Sound.{IsTrack, IsAt}
use Rattle.player_model.proofs.Register.{register-on, register-last}

-- a place is the last or not
pub place-or-last : (place n : ℕ) → place < n → (suc place < n) ⊎ (suc place ≡ n)
place-or-last place n h = grind arith

-- the block of a position fits into the memory
pub block_fits : (d : Decoder) (f : Format) (t : Track) (b : ℕ) (at : Position) → IsTrack d f t → IsAt d f t b at → at.address + f.size ≤ length t.memory
block_fits d f t b at track here =
    let more : f.size * suc b ≤ f.size * t.blocks = mul-le-mul_left f.size here.block_fits in
    omega (arith, track.fits, here.address_is, more)

-- an end block ends, and no other does
ends-at : (d : Decoder) (f : Format) (t : Track) (b : ℕ) (at : Position) → IsTrack d f t → IsAt d f t b at → suc b ≡ t.blocks → ends f t.memory at.address ≡ true
ends-at d f t b at track here last = ap (ends f t.memory) here.address_is ∙ track.ends b here.block_fits ∙ eq-eqb (suc b) t.blocks last

goes-at : (d : Decoder) (f : Format) (t : Track) (b : ℕ) (at : Position) → IsTrack d f t → IsAt d f t b at → suc b < t.blocks → ends f t.memory at.address ≡ false
goes-at d f t b at track here more = ap (ends f t.memory) here.address_is ∙ track.ends b here.block_fits ∙ ne_eqb (suc b) t.blocks (omega arith)

-- a sample within a block
pub within-block : (d : Decoder) (f : Format) (t : Track) (b : ℕ) (at : Position) → IsAt d f t b at → suc at.place < d.samples
    → IsAt d f t b (moved d f t.memory at)
within-block d f t b at here less =
    let on : is_last d at ≡ false = ne_eqb (suc at.place) d.samples (omega arith) in
    let address : (moved d f t.memory at).address ≡ at.address = rw on refl in
    let place : (moved d f t.memory at).place ≡ suc at.place = rw on refl in
    let again : (moved d f t.memory at).again ≡ at.again = rw on refl in
    record {
      block_fits = here.block_fits;
      address_is = address ∙ here.address_is;
      place_fits = omega (arith, place);
      again_is = rw again here.again_is;
    }

-- the last sample of a block that is not the end block
pub to-next-block : (d : Decoder) (f : Format) (t : Track) (b : ℕ) (at : Position) → IsTrack d f t → IsAt d f t b at → suc at.place ≡ d.samples
    → suc b < t.blocks → IsAt d f t (suc b) (moved d f t.memory at)
to-next-block d f t b at track here last more =
    let over : is_last d at ≡ true = eq-eqb (suc at.place) d.samples last in
    let goes = goes-at d f t b at track here more in
    let address : (moved d f t.memory at).address ≡ at.address + f.size = rw (over, goes) refl in
    let place : (moved d f t.memory at).place ≡ 0 = rw over refl in
    let again : (moved d f t.memory at).again ≡ register_after f t.memory at.again at.address = rw over refl in
    record {
      block_fits = more;
      address_is = omega (arith, address, here.address_is);
      place_fits = omega (arith, place);
      again_is = rw again (register-on f t b at.again at.address here.again_is here.block_fits here.address_is);
    }

-- the last sample of the end block, where that repeats: the register tells the block that comes next
pub to-loop-block : (d : Decoder) (f : Format) (t : Track) (b l : ℕ) (at : Position) → IsTrack d f t → IsAt d f t b at → suc at.place ≡ d.samples
    → suc b ≡ t.blocks → l < t.blocks → end_register f t ≡ t.start + f.size * l → IsAt d f t l (moved d f t.memory at)
to-loop-block d f t b l at track here last end within there =
    let over : is_last d at ≡ true = eq-eqb (suc at.place) d.samples last in
    let stops = ends-at d f t b at track here end in
    let address : (moved d f t.memory at).address ≡ register_after f t.memory at.again at.address = rw (over, stops) refl in
    let place : (moved d f t.memory at).place ≡ 0 = rw over refl in
    let again : (moved d f t.memory at).again ≡ register_after f t.memory at.again at.address = rw over refl in
    let set = register-last f t b at.again at.address here.again_is end here.address_is in
    record {
      block_fits = within;
      address_is = address ∙ set ∙ there;
      place_fits = omega (arith, place);
      again_is = inr (again ∙ set, omega (arith, there));
    }

-- before that the player sounds, and there it does where the end block repeats
pub sounds-within : (d : Decoder) (f : Format) (t : Track) (at : Position) → suc at.place < d.samples → (moved d f t.memory at).muted ≡ false
sounds-within d f t at less =
    let on : is_last d at ≡ false = ne_eqb (suc at.place) d.samples (omega arith) in rw on refl

pub sounds-next : (d : Decoder) (f : Format) (t : Track) (b : ℕ) (at : Position) → IsTrack d f t → IsAt d f t b at → suc at.place ≡ d.samples
    → suc b < t.blocks → (moved d f t.memory at).muted ≡ false
sounds-next d f t b at track here last more =
    let over : is_last d at ≡ true = eq-eqb (suc at.place) d.samples last in
    let goes = goes-at d f t b at track here more in
    rw (over, goes) refl

pub sounds-looped : (d : Decoder) (f : Format) (t : Track) (b : ℕ) (at : Position) → IsTrack d f t → IsAt d f t b at → suc at.place ≡ d.samples
    → suc b ≡ t.blocks → repeats f t.memory at.address ≡ true → (moved d f t.memory at).muted ≡ false
sounds-looped d f t b at track here last end again =
    let over : is_last d at ≡ true = eq-eqb (suc at.place) d.samples last in
    let stops = ends-at d f t b at track here end in
    rw (over, stops, again) refl

-- else all is silent
pub to-silence : (d : Decoder) (f : Format) (t : Track) (b : ℕ) (at : Position) → IsTrack d f t → IsAt d f t b at → suc at.place ≡ d.samples
    → suc b ≡ t.blocks → repeats f t.memory at.address ≡ false → (moved d f t.memory at).muted ≡ true
to-silence d f t b at track here last end once =
    let over : is_last d at ≡ true = eq-eqb (suc at.place) d.samples last in
    let stops = ends-at d f t b at track here end in
    rw (over, stops, once) refl

-- the end block's flags are told by its number
pub repeats-last : (d : Decoder) (f : Format) (t : Track) (b : ℕ) (at : Position) → IsAt d f t b at → suc b ≡ t.blocks
    → repeats f t.memory at.address ≡ repeats_at f t.memory t.start (t.blocks - 1)
repeats-last d f t b at here end =
    let last : b ≡ t.blocks - 1 = omega (arith, end) in
    ap (repeats f t.memory) (here.address_is ∙ ap (λ (n : ℕ). t.start + f.size * n) last)

-- an address of one of the blocks
pub address-of-block : (f : Format) (begin blocks address : ℕ) → is_block f begin blocks address ≡ true
    → ((address - begin) / f.size < blocks) × (address ≡ begin + f.size * ((address - begin) / f.size))
address-of-block f begin blocks address h =
    let outer = and_parts _ _ h in
    let inner = and_parts _ _ outer.1 in
    let low : begin ≤ address = leb-true _ _ outer.0 in
    let whole : (address - begin) % f.size ≡ 0 = eqb-true _ _ inner.0 in
    let split = div-add-mod (address - begin) f.size in
    (ltb-true _ _ inner.1, omega (arith, low, whole, split))

-- how far it is from the start
pub gap-is : (address begin size l : ℕ) → address ≡ begin + size * l → address - begin ≡ size * l
gap-is address begin size l e = omega (arith, e)

-- the address of a block is that of one
pub block-is : (f : Format) (begin blocks address l : ℕ) → 0 < f.size → address ≡ begin + f.size * l → l < blocks → is_block f begin blocks address ≡ true
block-is f begin blocks address l some e h =
    let gap = gap-is address begin f.size l e in
    let whole : (address - begin) % f.size ≡ 0 = ap (λ x. x % f.size) gap ∙ mul-mod_right f.size l in
    let block : (address - begin) / f.size ≡ l = ap (λ x. x / f.size) gap ∙ mul-div_cancel_left l some in
    and_from _ _ (le-leb begin address (omega (arith, e))) (and_from _ _ (eq-eqb _ 0 whole) (lt-ltb _ blocks (omega (arith, block))))
