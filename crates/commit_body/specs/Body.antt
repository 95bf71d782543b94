-- Contract: the body of a commit: its sector, and which bodies may stand in a slot.
use Rattle.std.specs.Prelude.{ℕ, ◌%◌, ◌^◌, ◌<◌, ◌≤◌, ◌≡◌, List, ◌++◌, replicate, codes}
use Rattle.std.specs.Int.{w64, to_be_bytes}
use Rattle.commit_body.specs.declared.body.Mark.{Mark}
use Rattle.commit_body.specs.declared.body.CommitBody.{CommitBody}

-- the zeros that fill the sector
unfoldable pub filler : List ℕ
filler = replicate 440 0

-- a place of the log: its position, then its seq
abbrev pub mark_bytes : Mark → List ℕ
mark_bytes mark = to_be_bytes w64 mark.position ++ to_be_bytes w64 mark.seq

-- the sector of a commit with this number
unfoldable pub body_bytes : CommitBody → ℕ → List ℕ
body_bytes body number =
    codes "LSVDCMT1"
    ++ body.uuid
    ++ to_be_bytes w64 body.epoch
    ++ to_be_bytes w64 number
    ++ mark_bytes body.tail
    ++ mark_bytes body.head
    ++ filler

-- tail and head are places of a log of this many sectors, in their order, and one place where their seqs are one
pub record MayStand (body : CommitBody) (log : ℕ) : Type 0 where
  pub tail_inside : body.tail.position < log
  pub head_inside : body.head.position < log
  pub in_order : body.tail.seq ≤ body.head.seq
  pub one_place : body.tail.seq ≡ body.head.seq → body.tail.position ≡ body.head.position

-- the position and the seq are numbers of 64 bits
pub record IsMarkOf64Bits (mark : Mark) : Type 0 where
  pub position : mark.position < 2 ^ 64
  pub seq : mark.seq < 2 ^ 64

-- all numbers of the body are numbers of 64 bits
pub record HasNumbersOf64Bits (body : CommitBody) (number : ℕ) : Type 0 where
  pub epoch : body.epoch < 2 ^ 64
  pub commit : number < 2 ^ 64
  pub tail : IsMarkOf64Bits body.tail
  pub head : IsMarkOf64Bits body.head

-- a sector is, in this one of the three slots, the body of the commit with this number, for a log of this many
-- sectors
pub record IsBody (sector : List ℕ) (log slot : ℕ) (body : CommitBody) (number : ℕ) : Type 0 where
  pub bytes : sector ≡ body_bytes body number
  pub in_slot : number % 3 ≡ slot
  pub may_stand : MayStand body log
  pub numbers : HasNumbersOf64Bits body number
