-- A refused call leaves the state bytes, the RAM, the frame store and the lent buffers as they were. Assumes nothing.
use mathlib.Core.Path.{◌≡◌}
use mathlib.Core.List.{List, []}
use Prim.Native.Nat.{ℕ, ◌/◌, ◌<◌}
use Rattle.tiles.specs.Tiles.{Bytes}
use Rattle.cartridge.proofs.Refusals.{write_refuses}
use Rattle.capture.proofs.Refusals.{tick_refuses}
use Rattle.desk.proofs.Choices.{choose_refuses}
use Rattle.layout.specs.Layout.{decoded}
use Rattle.embed.specs.Exports.{write_bytes, tick_bytes, plain_in, exposure_in, choose_bytes}
use Rattle.embed.proofs.Cases.{write_done, tick_done, choose_done, write_unread, tick_unread, choose_unread}
use Rattle.embed.proofs.Only.{write_says, tick_says, choose_says}
use Rattle.answers.proofs.Kept.{Keeps, called_kept}

module _ (s ram store : List ℕ) (bytes : Bytes s) where
  pub write_kept : (image : List ℕ) (a v : ℕ) → (0 ≡ (write_bytes s ram store image a v).answer / 4294967296 → ⊥) → Keeps (write_bytes s ram store image a v) s ram store
  write_kept image a v =
      called_kept s ram store bytes (write_unread s ram store image a v) (write_done s ram store image a v) (write_refuses (decoded s) ram store image a v) (write_says s ram store image a v)

  pub tick_kept : (n : ℕ) → n < 4294967296 → (0 ≡ (tick_bytes s ram store n).answer / 4294967296 → ⊥) → Keeps (tick_bytes s ram store n) s ram store
  tick_kept n l = called_kept s ram store bytes (tick_unread s ram store n) (tick_done s ram store n) (tick_refuses (decoded s) ram store n) (tick_says s ram store n l)

pub choose_kept : (s : List ℕ) → Bytes s → (light level plain exposure : ℕ) → (0 ≡ (choose_bytes s light level plain exposure).answer / 4294967296 → ⊥) → (choose_bytes s light level plain exposure).state ≡ s
choose_kept s bytes light level plain exposure some =
    (called_kept s [] [] bytes (choose_unread s light level plain exposure) (choose_done s light level plain exposure) (choose_refuses (decoded s) light level (plain_in plain) (exposure_in exposure)) (choose_says s light level plain exposure) some).state
