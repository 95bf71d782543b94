-- For this crate's own clauses: where the parts of a body stand in its sector.
use Rattle.std.specs.Prelude.{ℕ, ◌+◌, List}
use Rattle.std.specs.Int.{w64}
use Rattle.lsvd_bytes.specs.Places.{bytes_at, number_at}
use Rattle.commit_body.specs.declared.body.Mark.{Mark}
use Rattle.commit_body.specs.declared.body.CommitBody.{CommitBody}

-- the mark in the 16 bytes from a place on
abbrev pub mark_in : ℕ → List ℕ → Mark
mark_in at sector = record {
  position = number_at w64 at sector;
  seq = number_at w64 (at + 8) sector;
}

-- the number of the commit
abbrev pub number_in : List ℕ → ℕ
number_in sector = number_at w64 32 sector

-- the body that the parts of a sector make
abbrev pub body_in : List ℕ → CommitBody
body_in sector = record {
  uuid = bytes_at 8 16 sector;
  epoch = number_at w64 24 sector;
  tail = mark_in 40 sector;
  head = mark_in 56 sector;
}
