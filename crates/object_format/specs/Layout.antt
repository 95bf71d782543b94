-- Contract: which kinds of objects there are, and how long their parts are, in bytes where nothing else is said.
use Rattle.std.specs.Prelude.{ℕ, ◌+◌, ◌-◌, ◌*◌, ◌/◌, ◌==◌, Option, Some, None, if◌then◌else◌}
use Rattle.object_format.specs.declared.kind.Kind.{Kind}
use Rattle.object_format.specs.declared.kind.Kind.TheVariants.{Data, Copy, Checkpoint}
use Rattle.object_format.specs.declared.header.Header.{Header}

-- the number of a kind
abbrev pub number_of : Kind → ℕ
number_of Data = 1
number_of Copy = 2
number_of Checkpoint = 3

-- the kind with this number
abbrev pub kind_from : ℕ → Option Kind
kind_from number =
    if number == 1 then Some Data else
    (if number == 2 then Some Copy else
    (if number == 3 then Some Checkpoint else None))

-- the bytes of this many rows
abbrev pub rows_length : Kind → ℕ → ℕ
rows_length Data rows = 24 * rows
rows_length Copy rows = 44 * rows
rows_length Checkpoint rows = 36 * rows

-- where the rows end
abbrev pub rows_end : Header → ℕ
rows_end header = 64 + rows_length header.kind header.rows

-- the sectors of the header, this many rows and the zeros after them
abbrev pub front_with : Kind → ℕ → ℕ
front_with kind rows = (64 + rows_length kind rows + 511) / 512

abbrev pub front_sectors : Header → ℕ
front_sectors header = front_with header.kind header.rows

-- those of a data object with this many rows
abbrev pub data_front_sectors : ℕ → ℕ
data_front_sectors rows = front_with Data rows

-- and of a copy
abbrev pub copy_front_sectors : ℕ → ℕ
copy_front_sectors rows = front_with Copy rows

-- the zeros after the rows
abbrev pub padding : Header → ℕ
padding header = 512 * front_sectors header - rows_end header

-- the whole object
abbrev pub length_of : Header → ℕ
length_of header = 512 * (front_sectors header + header.payload)
