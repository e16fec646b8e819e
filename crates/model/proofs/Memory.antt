-- A stretch of memory and what replaces it: the laws of stretch and splice. Assumes nothing.
use Prim.Native.Nat.{ℕ, ◌+◌, ◌-◌, ◌≤◌, ◌<◌}
use mathlib.Core.Path.{◌≡◌, ap, ◌∙◌}
use mathlib.Core.List.{List, ◌++◌, append_assoc}
use native.Mathlib.Omega.{arith}
use lib.ListN.{length, get_or, take, drop, length-append, length-take, length-drop, get_or-append}
use lib.Seq.{length-take-le, get_or-take, get_or-drop, get_or-append-add, take_at, drop_at, drop-drop}
use Rattle.model.specs.Run.{stretch, splice}

module _ (offset size : ℕ) (memory : List ℕ) (fits : offset + size ≤ length memory) where
  -- the stretch is as long as it says
  pub stretch-length : length (stretch offset size memory) ≡ size
  stretch-length = omega (arith, length-take size (drop offset memory), length-drop offset memory)

  below_length : length (take offset memory) ≡ offset
  below_length = length-take-le offset memory (omega arith)

  module _ (bytes : List ℕ) (long : length bytes ≡ size) where
    front_length : length (take offset memory ++ bytes) ≡ offset + size
    front_length = omega (arith, length-append (take offset memory) bytes, below_length)

    -- a splice in two parts: what ends with the spliced bytes, and the memory above them
    splice_parts : splice offset size memory bytes ≡ take offset memory ++ bytes ++ drop (offset + size) memory
    unfolding splice
    splice_parts = rw (drop-drop, append_assoc)

    -- a splice keeps the memory's length
    pub splice-length : length (splice offset size memory bytes) ≡ length memory
    splice-length = rw splice_parts (simp (length-append, length-drop) (omega (arith, below_length)))

    -- a splice keeps the bytes below the stretch
    pub splice_below : (at : ℕ) → at < offset → get_or (splice offset size memory bytes) at 0 ≡ get_or memory at 0
    unfolding splice
    splice_below at below =
        get_or-append (take offset memory) _ 0 at (omega (arith, below_length)) ∙ get_or-take offset memory at 0 below

    -- a splice keeps the bytes above the stretch
    pub splice_above : (at : ℕ) → offset + size ≤ at → get_or (splice offset size memory bytes) at 0 ≡ get_or memory at 0
    splice_above at above =
        let further : ℕ = at - (offset + size) in
        let from_front : at ≡ length (take offset memory ++ bytes) + further = omega (arith, front_length) in
        let from_start : offset + size + further ≡ at = omega arith in
        ap (λ (l : List ℕ). get_or l at 0) splice_parts
        ∙ ap (λ (i : ℕ). get_or (take offset memory ++ bytes ++ drop (offset + size) memory) i 0) from_front
        ∙ get_or-append-add (take offset memory ++ bytes) (drop (offset + size) memory) further 0
        ∙ get_or-drop (offset + size) memory further 0
        ∙ ap (λ (i : ℕ). get_or memory i 0) from_start

    take-splice : take offset (splice offset size memory bytes) ≡ take offset memory
    unfolding splice
    take-splice = take_at (take offset memory) _ offset below_length

    drop-splice : drop offset (splice offset size memory bytes) ≡ bytes ++ drop size (drop offset memory)
    unfolding splice
    drop-splice = drop_at (take offset memory) _ offset below_length

    -- the stretch of a splice is the spliced bytes
    pub stretch-splice : stretch offset size (splice offset size memory bytes) ≡ bytes
    stretch-splice = ap (take size) drop-splice ∙ take_at bytes _ size long

    -- of two splices at one place the later one counts
    pub splice-splice : (later : List ℕ)
        → splice offset size (splice offset size memory bytes) later ≡ splice offset size memory later
    unfolding splice
    splice-splice later =
        ap (λ (l : List ℕ). l ++ (later ++ drop size (drop offset (splice offset size memory bytes)))) take-splice
        ∙ ap (λ (l : List ℕ). take offset memory ++ (later ++ l)) (ap (drop size) drop-splice ∙ drop_at bytes _ size long)
