-- Half-words and the long words that they stand for, as lists of rows, each covered by one computed check. A definition and a
-- code that agree on a wrong place of a bit would be proved of each other; these rows refuse both.
-- The numbers were made by riscv64-linux-gnu-as and read by riscv64-linux-gnu-objdump (GNU Binutils 2.40), not by this
-- crate, from the text beside them: the half-word with -march=rv64ic (rv64idc for the floating-point ones), the long word
-- with -march=rv64i. Over the rows of a line and its edges no two bits of its immediate and registers have the same values.
-- Assumes nothing.
use mathlib.Core.Path.{◌≡◌, refl}
use mathlib.Core.List.{List, [], ◌∷◌, map}
use Prim.Native.Nat.{ℕ}
use Rattle.std.proofs.Common.{Option, Some, None}
use Rattle.words.specs.Word.{sext}
use Rattle.instructions.specs.declared.instruction.Instruction.{Instruction}
use Rattle.instructions.specs.Encode.{encode_word}
use Rattle.compressed.specs.Expand.{expand_half}

-- the long word of an answer; none where it is illegal
abbrev pub long : Option Instruction → Option ℕ
long (Some i) = encode_word i
long None = None

abbrev pub rows : List (ℕ × ℕ)
rows =
    (0x1bf8, 0x1fc10713)  -- c.addi4spn x14, x2, 508: addi x14, x2, 508
    ∷ (0x1534, 0x2a810693)  -- c.addi4spn x13, x2, 680: addi x13, x2, 680
    ∷ (0x1a0c, 0x13010593)  -- c.addi4spn x11, x2, 304: addi x11, x2, 304
    ∷ (0x0380, 0x1c010413)  -- c.addi4spn x8, x2, 448: addi x8, x2, 448
    ∷ (0x4cd8, 0x01c4a703)  -- c.lw x14, 28(x9): lw x14, 28(x9)
    ∷ (0x5514, 0x02852683)  -- c.lw x13, 40(x10): lw x13, 40(x10)
    ∷ (0x4a2c, 0x05062583)  -- c.lw x11, 80(x12): lw x11, 80(x12)
    ∷ (0x7c98, 0x0384b703)  -- c.ld x14, 56(x9): ld x14, 56(x9)
    ∷ (0x6934, 0x05053683)  -- c.ld x13, 80(x10): ld x13, 80(x10)
    ∷ (0x724c, 0x0a063583)  -- c.ld x11, 160(x12): ld x11, 160(x12)
    ∷ (0xcf44, 0x00972e23)  -- c.sw x9, 28(x14): sw x9, 28(x14)
    ∷ (0xd688, 0x02a6a423)  -- c.sw x10, 40(x13): sw x10, 40(x13)
    ∷ (0xc9b0, 0x04c5a823)  -- c.sw x12, 80(x11): sw x12, 80(x11)
    ∷ (0xff04, 0x02973c23)  -- c.sd x9, 56(x14): sd x9, 56(x14)
    ∷ (0xeaa8, 0x04a6b823)  -- c.sd x10, 80(x13): sd x10, 80(x13)
    ∷ (0xf1d0, 0x0ac5b023)  -- c.sd x12, 160(x11): sd x12, 160(x11)
    ∷ (0x0001, 0x00000013)  -- c.nop: addi x0, x0, 0
    ∷ (0x001d, 0x00700013)  -- c.nop 7: addi x0, x0, 7
    ∷ (0x1029, 0xfea00013)  -- c.nop -22: addi x0, x0, -22
    ∷ (0x1051, 0xff400013)  -- c.nop -12: addi x0, x0, -12
    ∷ (0x029d, 0x00728293)  -- c.addi x5, 7: addi x5, x5, 7
    ∷ (0x1b29, 0xfeab0b13)  -- c.addi x22, -22: addi x22, x22, -22
    ∷ (0x1cd1, 0xff4c8c93)  -- c.addi x25, -12: addi x25, x25, -12
    ∷ (0x2d1d, 0x007d0d1b)  -- c.addiw x26, 7: addiw x26, x26, 7
    ∷ (0x34a9, 0xfea4849b)  -- c.addiw x9, -22: addiw x9, x9, -22
    ∷ (0x3ad1, 0xff4a8a9b)  -- c.addiw x21, -12: addiw x21, x21, -12
    ∷ (0x429d, 0x00700293)  -- c.li x5, 7: addi x5, x0, 7
    ∷ (0x5b29, 0xfea00b13)  -- c.li x22, -22: addi x22, x0, -22
    ∷ (0x5cd1, 0xff400c93)  -- c.li x25, -12: addi x25, x0, -12
    ∷ (0x6165, 0x07010113)  -- c.addi16sp x2, 112: addi x2, x2, 112
    ∷ (0x710d, 0xea010113)  -- c.addi16sp x2, -352: addi x2, x2, -352
    ∷ (0x7131, 0xf4010113)  -- c.addi16sp x2, -192: addi x2, x2, -192
    ∷ (0x6d1d, 0x00007d37)  -- c.lui x26, 0x7: lui x26, 0x7
    ∷ (0x74a9, 0xfffea4b7)  -- c.lui x9, 0xfffea: lui x9, 0xfffea
    ∷ (0x7ad1, 0xffff4ab7)  -- c.lui x21, 0xffff4: lui x21, 0xffff4
    ∷ (0x809d, 0x0074d493)  -- c.srli x9, 7: srli x9, x9, 7
    ∷ (0x9129, 0x02a55513)  -- c.srli x10, 42: srli x10, x10, 42
    ∷ (0x9251, 0x03465613)  -- c.srli x12, 52: srli x12, x12, 52
    ∷ (0x849d, 0x4074d493)  -- c.srai x9, 7: srai x9, x9, 7
    ∷ (0x9529, 0x42a55513)  -- c.srai x10, 42: srai x10, x10, 42
    ∷ (0x9651, 0x43465613)  -- c.srai x12, 52: srai x12, x12, 52
    ∷ (0x8b1d, 0x00777713)  -- c.andi x14, 7: andi x14, x14, 7
    ∷ (0x9aa9, 0xfea6f693)  -- c.andi x13, -22: andi x13, x13, -22
    ∷ (0x99d1, 0xff45f593)  -- c.andi x11, -12: andi x11, x11, -12
    ∷ (0x8c99, 0x40e484b3)  -- c.sub x9, x14: sub x9, x9, x14
    ∷ (0x8d15, 0x40d50533)  -- c.sub x10, x13: sub x10, x10, x13
    ∷ (0x8e0d, 0x40b60633)  -- c.sub x12, x11: sub x12, x12, x11
    ∷ (0x8cb9, 0x00e4c4b3)  -- c.xor x9, x14: xor x9, x9, x14
    ∷ (0x8d35, 0x00d54533)  -- c.xor x10, x13: xor x10, x10, x13
    ∷ (0x8e2d, 0x00b64633)  -- c.xor x12, x11: xor x12, x12, x11
    ∷ (0x8cd9, 0x00e4e4b3)  -- c.or x9, x14: or x9, x9, x14
    ∷ (0x8d55, 0x00d56533)  -- c.or x10, x13: or x10, x10, x13
    ∷ (0x8e4d, 0x00b66633)  -- c.or x12, x11: or x12, x12, x11
    ∷ (0x8cf9, 0x00e4f4b3)  -- c.and x9, x14: and x9, x9, x14
    ∷ (0x8d75, 0x00d57533)  -- c.and x10, x13: and x10, x10, x13
    ∷ (0x8e6d, 0x00b67633)  -- c.and x12, x11: and x12, x12, x11
    ∷ (0x9c99, 0x40e484bb)  -- c.subw x9, x14: subw x9, x9, x14
    ∷ (0x9d15, 0x40d5053b)  -- c.subw x10, x13: subw x10, x10, x13
    ∷ (0x9e0d, 0x40b6063b)  -- c.subw x12, x11: subw x12, x12, x11
    ∷ (0x9cb9, 0x00e484bb)  -- c.addw x9, x14: addw x9, x9, x14
    ∷ (0x9d35, 0x00d5053b)  -- c.addw x10, x13: addw x10, x10, x13
    ∷ (0x9e2d, 0x00b6063b)  -- c.addw x12, x11: addw x12, x12, x11
    ∷ (0xa8fd, 0x0fe0006f)  -- c.j.+0xfe: jal x0, .+0xfe
    ∷ (0xab91, 0x5540006f)  -- c.j.+0x554: jal x0, .+0x554
    ∷ (0xad61, 0x6980006f)  -- c.j.+0x698: jal x0, .+0x698
    ∷ (0xb0c5, 0x8e1ff06f)  -- c.j.-0x720: jal x0, .-0x720
    ∷ (0xccfd, 0x0e048f63)  -- c.beqz x9, .+0xfe: beq x9, x0, .+0xfe
    ∷ (0xd931, 0xf4050ae3)  -- c.beqz x10, .-0xac: beq x10, x0, .-0xac
    ∷ (0xce41, 0x08060c63)  -- c.beqz x12, .+0x98: beq x12, x0, .+0x98
    ∷ (0xc3e5, 0x0e078063)  -- c.beqz x15, .+0xe0: beq x15, x0, .+0xe0
    ∷ (0xecfd, 0x0e049f63)  -- c.bnez x9, .+0xfe: bne x9, x0, .+0xfe
    ∷ (0xf931, 0xf4051ae3)  -- c.bnez x10, .-0xac: bne x10, x0, .-0xac
    ∷ (0xee41, 0x08061c63)  -- c.bnez x12, .+0x98: bne x12, x0, .+0x98
    ∷ (0xe3e5, 0x0e079063)  -- c.bnez x15, .+0xe0: bne x15, x0, .+0xe0
    ∷ (0x029e, 0x00729293)  -- c.slli x5, 7: slli x5, x5, 7
    ∷ (0x1b2a, 0x02ab1b13)  -- c.slli x22, 42: slli x22, x22, 42
    ∷ (0x1cd2, 0x034c9c93)  -- c.slli x25, 52: slli x25, x25, 52
    ∷ (0x42f2, 0x01c12283)  -- c.lwsp x5, 28(x2): lw x5, 28(x2)
    ∷ (0x5b2a, 0x0a812b03)  -- c.lwsp x22, 168(x2): lw x22, 168(x2)
    ∷ (0x4cce, 0x0d012c83)  -- c.lwsp x25, 208(x2): lw x25, 208(x2)
    ∷ (0x72e2, 0x03813283)  -- c.ldsp x5, 56(x2): ld x5, 56(x2)
    ∷ (0x6b56, 0x15013b03)  -- c.ldsp x22, 336(x2): ld x22, 336(x2)
    ∷ (0x7c9a, 0x1a013c83)  -- c.ldsp x25, 416(x2): ld x25, 416(x2)
    ∷ (0x8282, 0x00028067)  -- c.jr x5: jalr x0, 0(x5)
    ∷ (0x8b02, 0x000b0067)  -- c.jr x22: jalr x0, 0(x22)
    ∷ (0x8c82, 0x000c8067)  -- c.jr x25: jalr x0, 0(x25)
    ∷ (0x82ea, 0x01a002b3)  -- c.mv x5, x26: add x5, x0, x26
    ∷ (0x8b26, 0x00900b33)  -- c.mv x22, x9: add x22, x0, x9
    ∷ (0x8cd6, 0x01500cb3)  -- c.mv x25, x21: add x25, x0, x21
    ∷ (0x9002, 0x00100073)  -- c.ebreak: ebreak
    ∷ (0x9d02, 0x000d00e7)  -- c.jalr x26: jalr x1, 0(x26)
    ∷ (0x9482, 0x000480e7)  -- c.jalr x9: jalr x1, 0(x9)
    ∷ (0x9a82, 0x000a80e7)  -- c.jalr x21: jalr x1, 0(x21)
    ∷ (0x92ea, 0x01a282b3)  -- c.add x5, x26: add x5, x5, x26
    ∷ (0x9b26, 0x009b0b33)  -- c.add x22, x9: add x22, x22, x9
    ∷ (0x9cd6, 0x015c8cb3)  -- c.add x25, x21: add x25, x25, x21
    ∷ (0xce6a, 0x01a12e23)  -- c.swsp x26, 28(x2): sw x26, 28(x2)
    ∷ (0xd526, 0x0a912423)  -- c.swsp x9, 168(x2): sw x9, 168(x2)
    ∷ (0xc9d6, 0x0d512823)  -- c.swsp x21, 208(x2): sw x21, 208(x2)
    ∷ (0xfc6a, 0x03a13c23)  -- c.sdsp x26, 56(x2): sd x26, 56(x2)
    ∷ (0xeaa6, 0x14913823)  -- c.sdsp x9, 336(x2): sd x9, 336(x2)
    ∷ (0xf356, 0x1b513023)  -- c.sdsp x21, 416(x2): sd x21, 416(x2)
    ∷ []

-- of each line, an immediate of ones with low registers, and one of zeros, or of its highest or lowest bit alone, with high ones
abbrev pub edges : List (ℕ × ℕ)
edges =
    (0x1fe0, 0x3fc10413)  -- c.addi4spn x8, x2, 1020: addi x8, x2, 1020
    ∷ (0x005c, 0x00410793)  -- c.addi4spn x15, x2, 4: addi x15, x2, 4
    ∷ (0x5c60, 0x07c42403)  -- c.lw x8, 124(x8): lw x8, 124(x8)
    ∷ (0x439c, 0x0007a783)  -- c.lw x15, 0(x15): lw x15, 0(x15)
    ∷ (0x7c60, 0x0f843403)  -- c.ld x8, 248(x8): ld x8, 248(x8)
    ∷ (0x639c, 0x0007b783)  -- c.ld x15, 0(x15): ld x15, 0(x15)
    ∷ (0xdc60, 0x06842e23)  -- c.sw x8, 124(x8): sw x8, 124(x8)
    ∷ (0xc39c, 0x00f7a023)  -- c.sw x15, 0(x15): sw x15, 0(x15)
    ∷ (0xfc60, 0x0e843c23)  -- c.sd x8, 248(x8): sd x8, 248(x8)
    ∷ (0xe39c, 0x00f7b023)  -- c.sd x15, 0(x15): sd x15, 0(x15)
    ∷ (0x107d, 0xfff00013)  -- c.nop -1: addi x0, x0, -1
    ∷ (0x10fd, 0xfff08093)  -- c.addi x1, -1: addi x1, x1, -1
    ∷ (0x1f81, 0xfe0f8f93)  -- c.addi x31, -32: addi x31, x31, -32
    ∷ (0x30fd, 0xfff0809b)  -- c.addiw x1, -1: addiw x1, x1, -1
    ∷ (0x2f81, 0x000f8f9b)  -- c.addiw x31, 0: addiw x31, x31, 0
    ∷ (0x50fd, 0xfff00093)  -- c.li x1, -1: addi x1, x0, -1
    ∷ (0x4f81, 0x00000f93)  -- c.li x31, 0: addi x31, x0, 0
    ∷ (0x617d, 0x1f010113)  -- c.addi16sp x2, 496: addi x2, x2, 496
    ∷ (0x7101, 0xe0010113)  -- c.addi16sp x2, -512: addi x2, x2, -512
    ∷ (0x60fd, 0x0001f0b7)  -- c.lui x1, 0x1f: lui x1, 0x1f
    ∷ (0x7f81, 0xfffe0fb7)  -- c.lui x31, 0xfffe0: lui x31, 0xfffe0
    ∷ (0x907d, 0x03f45413)  -- c.srli x8, 63: srli x8, x8, 63
    ∷ (0x9381, 0x0207d793)  -- c.srli x15, 32: srli x15, x15, 32
    ∷ (0x947d, 0x43f45413)  -- c.srai x8, 63: srai x8, x8, 63
    ∷ (0x9781, 0x4207d793)  -- c.srai x15, 32: srai x15, x15, 32
    ∷ (0x987d, 0xfff47413)  -- c.andi x8, -1: andi x8, x8, -1
    ∷ (0x8b81, 0x0007f793)  -- c.andi x15, 0: andi x15, x15, 0
    ∷ (0x8c1d, 0x40f40433)  -- c.sub x8, x15: sub x8, x8, x15
    ∷ (0x8f81, 0x408787b3)  -- c.sub x15, x8: sub x15, x15, x8
    ∷ (0x8c3d, 0x00f44433)  -- c.xor x8, x15: xor x8, x8, x15
    ∷ (0x8fa1, 0x0087c7b3)  -- c.xor x15, x8: xor x15, x15, x8
    ∷ (0x8c5d, 0x00f46433)  -- c.or x8, x15: or x8, x8, x15
    ∷ (0x8fc1, 0x0087e7b3)  -- c.or x15, x8: or x15, x15, x8
    ∷ (0x8c7d, 0x00f47433)  -- c.and x8, x15: and x8, x8, x15
    ∷ (0x8fe1, 0x0087f7b3)  -- c.and x15, x8: and x15, x15, x8
    ∷ (0x9c1d, 0x40f4043b)  -- c.subw x8, x15: subw x8, x8, x15
    ∷ (0x9f81, 0x408787bb)  -- c.subw x15, x8: subw x15, x15, x8
    ∷ (0x9c3d, 0x00f4043b)  -- c.addw x8, x15: addw x8, x8, x15
    ∷ (0x9fa1, 0x008787bb)  -- c.addw x15, x8: addw x15, x15, x8
    ∷ (0xa001, 0x0000006f)  -- c.j.+0: jal x0, .+0
    ∷ (0xbffd, 0xfffff06f)  -- c.j.-2: jal x0, .-2
    ∷ (0xdc7d, 0xfe040fe3)  -- c.beqz x8, .-2: beq x8, x0, .-2
    ∷ (0xc381, 0x00078063)  -- c.beqz x15, .+0: beq x15, x0, .+0
    ∷ (0xfc7d, 0xfe041fe3)  -- c.bnez x8, .-2: bne x8, x0, .-2
    ∷ (0xe381, 0x00079063)  -- c.bnez x15, .+0: bne x15, x0, .+0
    ∷ (0x10fe, 0x03f09093)  -- c.slli x1, 63: slli x1, x1, 63
    ∷ (0x1f82, 0x020f9f93)  -- c.slli x31, 32: slli x31, x31, 32
    ∷ (0x50fe, 0x0fc12083)  -- c.lwsp x1, 252(x2): lw x1, 252(x2)
    ∷ (0x4f82, 0x00012f83)  -- c.lwsp x31, 0(x2): lw x31, 0(x2)
    ∷ (0x70fe, 0x1f813083)  -- c.ldsp x1, 504(x2): ld x1, 504(x2)
    ∷ (0x6f82, 0x00013f83)  -- c.ldsp x31, 0(x2): ld x31, 0(x2)
    ∷ (0x8082, 0x00008067)  -- c.jr x1: jalr x0, 0(x1)
    ∷ (0x8f82, 0x000f8067)  -- c.jr x31: jalr x0, 0(x31)
    ∷ (0x80fe, 0x01f000b3)  -- c.mv x1, x31: add x1, x0, x31
    ∷ (0x8f86, 0x00100fb3)  -- c.mv x31, x1: add x31, x0, x1
    ∷ (0x9082, 0x000080e7)  -- c.jalr x1: jalr x1, 0(x1)
    ∷ (0x9f82, 0x000f80e7)  -- c.jalr x31: jalr x1, 0(x31)
    ∷ (0x90fe, 0x01f080b3)  -- c.add x1, x31: add x1, x1, x31
    ∷ (0x9f86, 0x001f8fb3)  -- c.add x31, x1: add x31, x31, x1
    ∷ (0xdf82, 0x0e012e23)  -- c.swsp x0, 252(x2): sw x0, 252(x2)
    ∷ (0xc07e, 0x01f12023)  -- c.swsp x31, 0(x2): sw x31, 0(x2)
    ∷ (0xff82, 0x1e013c23)  -- c.sdsp x0, 504(x2): sd x0, 504(x2)
    ∷ (0xe07e, 0x01f13023)  -- c.sdsp x31, 0(x2): sd x31, 0(x2)
    ∷ []

pub edges_held : map (λ (r : ℕ × ℕ). long (expand_half r.0)) edges ≡ map (λ (r : ℕ × ℕ). Some r.1) edges
unfolding expand_half encode_word sext
edges_held = refl

pub long_words : map (λ (r : ℕ × ℕ). long (expand_half r.0)) rows ≡ map (λ (r : ℕ × ℕ). Some r.1) rows
unfolding expand_half encode_word sext
long_words = refl

-- what has no effect is legal
abbrev pub hints : List (ℕ × ℕ)
hints =
    (0x0681, 0x00068693)  -- c.addi x13, 0: addi x13, x13, 0
    ∷ (0x4045, 0x01100013)  -- c.li x0, 17: addi x0, x0, 17
    ∷ (0x6045, 0x00011037)  -- c.lui x0, 0x11: lui x0, 0x11
    ∷ (0x805a, 0x01600033)  -- c.mv x0, x22: add x0, x0, x22
    ∷ (0x905a, 0x01600033)  -- c.add x0, x22: add x0, x0, x22
    ∷ (0x0046, 0x01101013)  -- c.slli x0, 17: slli x0, x0, 17
    ∷ (0x0682, 0x00069693)  -- c.slli64 x13: slli x13, x13, 0
    ∷ (0x8081, 0x0004d493)  -- c.srli64 x9: srli x9, x9, 0
    ∷ (0x8481, 0x4004d493)  -- c.srai64 x9: srai x9, x9, 0
    ∷ []

pub hints_legal : map (λ (r : ℕ × ℕ). long (expand_half r.0)) hints ≡ map (λ (r : ℕ × ℕ). Some r.1) hints
unfolding expand_half encode_word sext
hints_legal = refl

-- "its floating-point loads and stores are illegal, as are reserved words"
abbrev pub illegal : List ℕ
illegal =
    0x0000  -- .insn ciw 0, 0, x8, 0; the immediate of C.ADDI4SPN is not 0; this is 0000
    ∷ 0x0014  -- .insn ciw 0, 0, x13, 0; nor with another rd
    ∷ 0x3494  -- c.fld f13, 40(x9); C.FLD
    ∷ 0x8094  -- .insn cl 0, 4, x13, 0(x9); quadrant 0, funct3 4
    ∷ 0xb494  -- c.fsd f13, 40(x9); C.FSD
    ∷ 0x2045  -- .insn ci 1, 1, x0, 17; the rd of C.ADDIW is not 0
    ∷ 0x6101  -- .insn ci 1, 3, x2, 0; the immediate of C.ADDI16SP is not 0
    ∷ 0x6681  -- .insn ci 1, 3, x13, 0; nor that of C.LUI
    ∷ 0x6001  -- .insn ci 1, 3, x0, 0; with rd 0 too
    ∷ 0x9cd5  -- .insn ca 1, 0x27, 2, x9, x13; beside C.SUBW and C.ADDW
    ∷ 0x9cf5  -- .insn ca 1, 0x27, 3, x9, x13
    ∷ 0x36a2  -- c.fldsp f13, 40(x2); C.FLDSP
    ∷ 0x4046  -- .insn ci 2, 2, x0, 17; the rd of C.LWSP is not 0
    ∷ 0x6046  -- .insn ci 2, 3, x0, 17; nor that of C.LDSP
    ∷ 0x8002  -- .insn cr 2, 8, x0, x0; nor the rs1 of C.JR
    ∷ 0xb436  -- c.fsdsp f13, 40(x2); C.FSDSP
    ∷ 0x0003  -- .2byte 0x0003; the first halves of long words: lb x0, 0(x0)
    ∷ 0x0513  -- .2byte 0x0513; addi x10, x0, 5
    ∷ 0xffff  -- .2byte 0xffff
    ∷ []

pub none_expanded : map expand_half illegal ≡ map (λ (h : ℕ). None) illegal
unfolding expand_half
none_expanded = refl
