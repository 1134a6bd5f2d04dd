-- The words for a queue: its kind, and its arguments.
use Rattle.std.specs.Prelude.{ℕ, Bool, ◌==◌, ◌&&◌, ◌||◌, List, [], ◌∷◌, Option, Some, None, Result, Ok, Err, length}
use Rattle.std.specs.Prelude.{take, drop, reverse, map, codes, nat_le, if◌then◌else◌}
use Rattle.std.specs.Option.{is_some}
use Rattle.std.specs.List.{list_all, slice_split, filter_map}
use Rattle.std.specs.Str.{bytes_eq}
use Rattle.text_base.specs.Numbers.{decimal_of}
use Rattle.packet_queue.specs.declared.spec.QueueKind.{QueueKind}
use Rattle.packet_queue.specs.declared.spec.QueueKind.TheVariants.{Infinite, DropTail, DropHead}
use Rattle.packet_queue.specs.declared.spec.QueueSpec.{QueueSpec}
use Rattle.packet_queue.specs.declared.spec.QueueError.{QueueError}
use Rattle.packet_queue.specs.declared.spec.QueueError.TheVariants.{UnknownKind, BadArgs, NoLimit, LimitOnInfinite}

-- without the spaces at the start, and without those at both ends
abbrev pub after_spaces : List ℕ → List ℕ
after_spaces [] = []
after_spaces (byte ∷ bytes) = if byte == 32 then after_spaces bytes else byte ∷ bytes

abbrev pub trimmed : List ℕ → List ℕ
trimmed text = reverse (after_spaces (reverse (after_spaces text)))

-- what stands between the commas, without the spaces around it; the empty text has no item
abbrev pub items_of : List ℕ → List (List ℕ)
items_of [] = []
items_of (byte ∷ bytes) = map trimmed (slice_split (λ b. b == 44) (byte ∷ bytes))

abbrev pub packets_name : List ℕ
packets_name = codes "packets="

abbrev pub bytes_name : List ℕ
bytes_name = codes "bytes="

-- the number N of an item that is this name and the decimal N
abbrev pub number_of : List ℕ → List ℕ → Option ℕ
number_of name item = if bytes_eq (take (length name) item) name then decimal_of (drop (length name) item) else None

-- the numbers of all items of this name
abbrev pub numbers_of : List ℕ → List (List ℕ) → List ℕ
numbers_of name items = filter_map (number_of name) items

abbrev pub is_item : List ℕ → Bool
is_item item = is_some (number_of packets_name item) || is_some (number_of bytes_name item)

-- each item is `packets=N` or `bytes=N`, and each name stands at most once
abbrev pub are_items : List (List ℕ) → Bool
are_items items = list_all is_item items && nat_le (length (numbers_of packets_name items)) 1 && nat_le
    (length (numbers_of bytes_name items)) 1

-- a limit of 0 is none
abbrev pub limit_of : List ℕ → Option ℕ
limit_of [] = None
limit_of (n ∷ ns) = if n == 0 then None else Some n

abbrev pub with_limits : QueueKind → Option ℕ → Option ℕ → Result QueueSpec QueueError
with_limits kind packets bytes =
    if is_some packets || is_some bytes then Ok (record { kind = kind; packets = packets; bytes = bytes })
    else Err NoLimit

abbrev pub limited : QueueKind → List (List ℕ) → Result QueueSpec QueueError
limited kind items =
    if are_items items then with_limits kind (limit_of (numbers_of packets_name items))
    (limit_of (numbers_of bytes_name items))
    else Err BadArgs

abbrev pub unlimited : List ℕ → Result QueueSpec QueueError
unlimited [] = Ok (record { kind = Infinite; packets = None; bytes = None })
unlimited (byte ∷ bytes) = Err LimitOnInfinite

-- the queue that a kind and its arguments name, or the first refusal
abbrev pub queue_of : List ℕ → List ℕ → Result QueueSpec QueueError
queue_of kind args =
    if bytes_eq kind (codes "infinite") then unlimited args
    else if bytes_eq kind (codes "droptail") then limited DropTail (items_of args)
    else if bytes_eq kind (codes "drophead") then limited DropHead (items_of args)
    else Err UnknownKind
