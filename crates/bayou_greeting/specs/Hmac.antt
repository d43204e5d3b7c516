-- The keyed-hash message authentication code of RFC 2104, over SHA-256 (FIPS 180-4). RFC 2104 calls the hash H, the bytes of a block of it B, the
-- key K, and the two pads ipad and opad. SHA-256 has blocks of 64 bytes.
use Rattle.std.specs.Prelude.{ℕ, ◌-◌, List, ◌++◌, length, map, nat_le, replicate, bit_xor, if◌then◌else◌}
use Rattle.sha2.specs.Sha256.{sha256}

-- K with zeros appended to its end, so that it has B bytes (section 2, step 1)
abbrev pub padded_key : List ℕ → List ℕ
padded_key key = key ++ replicate (64 - length key) 0

-- a K of more than B bytes is first hashed by H (section 2)
abbrev pub key_block : List ℕ → List ℕ
key_block key = if nat_le (length key) 64 then padded_key key else padded_key (sha256 key)

-- each byte of the block XOR the pad's byte (section 2, steps 2 and 5)
abbrev pub with_pad : ℕ → List ℕ → List ℕ
with_pad pad block = map (λ byte. bit_xor byte pad) block

-- H(K XOR opad, H(K XOR ipad, text)): ipad is the byte 0x36 repeated B times, and opad the byte 0x5C (section 2)
unfoldable pub hmac_sha256 : List ℕ → List ℕ → List ℕ
hmac_sha256 key text = sha256 (with_pad 0x5C (key_block key) ++ sha256 (with_pad 0x36 (key_block key) ++ text))
