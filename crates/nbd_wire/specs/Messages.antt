-- Contract: the bytes of NBD's messages, as its protocol document has them. All numbers are unsigned, and highest byte
-- first.
use Rattle.std.specs.Prelude.{ℕ, ◌≡◌, ◌^◌, ◌<◌, Bool, true, false, List, [], ◌++◌, length, replicate, codes}
use Rattle.std.specs.Int.{w16, w32, w64, to_be_bytes}
use Rattle.nbd_wire.specs.declared.message.OptionHead.{OptionHead}
use Rattle.nbd_wire.specs.declared.message.Request.{Request}

-- ---- negotiation

-- the greeting of a server: two magics, and its flags, of which bit 0 is for the fixed newstyle and bit 1 says that it
-- can leave out the zeros after an export
abbrev pub greeting_bytes : List ℕ
greeting_bytes = codes "NBDMAGIC" ++ codes "IHAVEOPT" ++ to_be_bytes w16 3

-- the flags of a client: the same two bits, each of which may be absent, and no other
pub record IsClientFlags (bytes : List ℕ) (flags : ℕ) : Type 0 where
  pub spelled : bytes ≡ to_be_bytes w32 flags
  pub known : flags < 4

-- the head of an option: the magic, its number, and the length of its data, which come next
abbrev pub option_head_bytes : OptionHead → List ℕ
option_head_bytes head = codes "IHAVEOPT" ++ to_be_bytes w32 head.option ++ to_be_bytes w32 head.length

pub record IsOptionHead (bytes : List ℕ) (head : OptionHead) : Type 0 where
  pub spelled : bytes ≡ option_head_bytes head
  pub option : head.option < 2 ^ 32
  pub length : head.length < 2 ^ 32

-- the head of a reply to an option: the magic, the option's number, the type of the reply, and the length of its data
abbrev pub option_reply_head : (option kind size : ℕ) → List ℕ
option_reply_head option kind size =
    to_be_bytes w64 0x0003e889045565a9 ++ to_be_bytes w32 option ++ to_be_bytes w32 kind ++ to_be_bytes w32 size

-- a reply to an option, with its data
abbrev pub option_reply_bytes : (option kind : ℕ) → List ℕ → List ℕ
option_reply_bytes option kind content = option_reply_head option kind (length content) ++ content

-- the zeros after an export, which are left out where both sides said so
abbrev pub export_zeros : Bool → List ℕ
export_zeros true = replicate 124 0
export_zeros false = []

-- the answer to the option that enters an export at once: the export's size in bytes and its flags
abbrev pub export_bytes : (size flags : ℕ) → (zeroes : Bool) → List ℕ
export_bytes size flags zeroes = to_be_bytes w64 size ++ to_be_bytes w16 flags ++ export_zeros zeroes

-- ---- transmission

-- a request: the magic, its flags, its type, its cookie, and the offset and the length in bytes. The data of a write come
-- next
abbrev pub request_bytes : Request → List ℕ
request_bytes request =
    to_be_bytes w32 0x25609513
    ++ to_be_bytes w16 request.flags
    ++ to_be_bytes w16 request.kind
    ++ to_be_bytes w64 request.cookie
    ++ to_be_bytes w64 request.offset
    ++ to_be_bytes w32 request.length

pub record IsRequest (bytes : List ℕ) (request : Request) : Type 0 where
  pub spelled : bytes ≡ request_bytes request
  pub flags : request.flags < 2 ^ 16
  pub kind : request.kind < 2 ^ 16
  pub cookie : request.cookie < 2 ^ 64
  pub offset : request.offset < 2 ^ 64
  pub length : request.length < 2 ^ 32

-- the head of a simple reply: the magic, the error, which is 0 where there is none, and the cookie of the request
abbrev pub simple_reply_head : (error cookie : ℕ) → List ℕ
simple_reply_head error cookie = to_be_bytes w32 0x67446698 ++ to_be_bytes w32 error ++ to_be_bytes w64 cookie

-- a simple reply, with the data of a read
abbrev pub simple_reply_bytes : (error cookie : ℕ) → List ℕ → List ℕ
simple_reply_bytes error cookie content = simple_reply_head error cookie ++ content
