-- 002's "Frame Description": "Intel Hex records consist of ASCII characters used to represent hexadecimal values". Assumes nothing:
-- these are definitions.
use Rattle.std.specs.Prelude.{List, [], ◌∷◌, ◌++◌, ℕ, suc, ◌+◌, ◌-◌, ◌*◌, ◌/◌, ◌%◌, length, take, drop}
use Rattle.record.specs.Digits.{digit_value}
use Rattle.lines.specs.Text.{hex_bytes}

-- "Record Mark is the start of frame. This field must contain ":"."
abbrev pub record_mark : ℕ
record_mark = 58

-- "Table 4": length, load offset (2 bytes) and type stand before the data, the checksum after it
abbrev pub head_size : ℕ
head_size = 4

abbrev pub checksum_size : ℕ
checksum_size = 1

-- "Record length .. 1 byte": no record has more bytes of data
abbrev pub most_data : ℕ
most_data = 255

-- how many characters a record with n bytes of data has: the mark, and two for each byte
abbrev pub character_count : ℕ → ℕ
character_count n = suc (2 * (head_size + n + checksum_size))

-- "converting each pair of ASCII hexadecimal digits to one Byte of binary"
abbrev pub pairs : List ℕ → List ℕ
pairs [] = []
pairs (h ∷ []) = []
pairs (h ∷ l ∷ cs) = (digit_value h * 16 + digit_value l) ∷ pairs cs

-- "the sum of all the ASCII pairs in a record after converting to binary"
abbrev pub sum : List ℕ → ℕ
sum [] = 0
sum (b ∷ bs) = b + sum bs

-- "The two's complement of the 8-bit Bytes that result": with it the sum of all is zero
abbrev pub checksum : List ℕ → ℕ
checksum bs = (256 - sum bs % 256) % 256

-- length, load offset high byte first, and type
abbrev pub head_bytes : ℕ → ℕ → ℕ → List ℕ
head_bytes offset kind n = n ∷ offset / 256 ∷ offset % 256 ∷ kind ∷ []

-- "include the Record Length field to the last Byte of the Data/Info field inclusive"
abbrev pub summed_bytes : ℕ → ℕ → List ℕ → List ℕ
summed_bytes offset kind d = head_bytes offset kind (length d) ++ d

-- a record's characters, in capitals: the mark, and the digits of its bytes
abbrev pub record_over : List ℕ → List ℕ
record_over bytes = record_mark ∷ hex_bytes bytes

unfoldable pub record_of : ℕ → ℕ → List ℕ → List ℕ
record_of offset kind d =
    let bytes = summed_bytes offset kind d in
    record_over (bytes ++ checksum bytes ∷ [])

-- the bytes of all pairs after the mark, and the data among them
abbrev pub bytes_of : List ℕ → List ℕ
bytes_of cs = pairs (drop 1 cs)

abbrev pub data_of : List ℕ → ℕ → List ℕ
data_of cs n = take n (drop head_size (bytes_of cs))
