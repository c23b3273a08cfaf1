-- Words and their instructions, as lists of rows, each covered by one computed check. A definition and a code that agree on
-- a wrong table of codes, or on a wrong place of a bit, would be proved of each other; these rows refuse both.
-- The words of `rows` were made by `riscv64-linux-gnu-as -march=rv64im` (GNU Binutils 2.40) from the text beside them, not by
-- this crate; `.insn` lays out the words of opcodes 0b, 2b and 5b, which only document 01 has. Some are of another assembler,
-- which is named above them.
-- Assumes nothing.
use mathlib.Core.Path.{◌≡◌, refl}
use mathlib.Core.List.{List, [], ◌∷◌, map}
use Prim.Native.Nat.{ℕ, zero, suc, ◌+◌, ◌-◌, ◌*◌, ◌/◌, ◌%◌, ◌^◌}
use Rattle.std.proofs.Common.{Option, Some, None}
use Rattle.words.specs.Word.{sext}
use Rattle.instructions.specs.Decode.{decode_word}
use Rattle.instructions.specs.Encode.{encode_word}
use Rattle.instructions.specs.declared.kind.UpperKind.TheVariants.{Lui, Auipc}
use Rattle.instructions.specs.declared.kind.BranchKind.TheVariants.{Beq, Bne, Blt, Bge, Bltu, Bgeu}
use Rattle.instructions.specs.declared.kind.LoadKind.TheVariants.{Lb, Lh, Lw, Ld, Lbu, Lhu, Lwu}
use Rattle.instructions.specs.declared.kind.StoreKind.TheVariants.{Sb, Sh, Sw, Sd}
use Rattle.instructions.specs.declared.kind.ImmediateKind.TheVariants.{Addi, Slti, Sltiu, Xori, Ori, Andi}
use Rattle.instructions.specs.declared.kind.ShiftKind.TheVariants.{Slli, Srli, Srai}
use Rattle.instructions.specs.declared.kind.ShiftWordKind.TheVariants.{Slliw, Srliw, Sraiw}
use Rattle.instructions.specs.declared.kind.RegisterKind.TheVariants.{Add, Sub, Sll, Slt, Sltu, Xor, Srl, Sra, Or, And, Mul, Mulh, Mulhsu, Mulhu, Div, Divu, Rem, Remu}
use Rattle.instructions.specs.declared.kind.RegisterWordKind.TheVariants.{Addw, Subw, Sllw, Srlw, Sraw, Mulw, Divw, Divuw, Remw, Remuw}
use Rattle.instructions.specs.declared.kind.SystemKind.TheVariants.{Ecall, Ebreak}
use Rattle.instructions.specs.declared.kind.HfiKind.TheVariants.{Enter, EnterJump, Exit, SelectRegion, SetBase, GetBase, SetBound, GetBound, SetPermission, GetPermission, SetHandler, GetHandler, ResetRegions}
use Rattle.instructions.specs.declared.instruction.Instruction.{Instruction}
use Rattle.instructions.specs.declared.instruction.Instruction.TheVariants.{Upper, Jal, Jalr, Branch, Load, Store, Immediate, Shift, Addiw, ShiftWord, Register, RegisterWord, Fence, System, HLoad, HStore, Hfi}

-- ---- words and what they are decoded to

abbrev pub rows : List (ℕ × Instruction)
rows =
    -- document 01, cases A and B; C is in the table of opcode 5b
    (0x00500513, Immediate Addi 10 0 5)  -- addi x10, x0, 5 (A)
    ∷ (0x00a001ab, HStore Sb 1 0 10 3)  -- .insn s 0x2b, 0, x10, 3(x0) (B)
    -- "RV32I Base Instruction Set"; SLLI, SRLI and SRAI with the six bits of RV64I
    ∷ (0x12345537, Upper Lui 10 0x12345000)  -- lui x10, 0x12345
    ∷ (0xedcba897, Upper Auipc 17 (2 ^ 64 - 0x12346000))  -- auipc x17, 0xedcba
    ∷ (0x5a65ac6f, Jal 24 0x5a5a6)  -- jal x24, .+0x5a5a6
    ∷ (0xd3338fe7, Jalr 31 7 (2 ^ 64 - 0x2cd))  -- jalr x31, -0x2cd(x7)
    ∷ (0x1b3383e3, Branch Beq 7 19 0x9a6)  -- beq x7, x19, .+0x9a6
    ∷ (0xe5f71d63, Branch Bne 14 31 (2 ^ 64 - 0x9a6))  -- bne x14, x31, .-0x9a6
    ∷ (0x62caca63, Branch Blt 21 12 0x634)  -- blt x21, x12, .+0x634
    ∷ (0x9d8e56e3, Branch Bge 28 24 (2 ^ 64 - 0x634))  -- bge x28, x24, .-0x634
    ∷ (0x525265e3, Branch Bltu 4 5 0xd2a)  -- bltu x4, x5, .+0xd2a
    ∷ (0xad15fb63, Branch Bgeu 11 17 (2 ^ 64 - 0xd2a))  -- bgeu x11, x17, .-0xd2a
    ∷ (0x35be8903, Load Lb 18 29 0x35b)  -- lb x18, 0x35b(x29)
    ∷ (0xca551c83, Load Lh 25 10 (2 ^ 64 - 0x35b))  -- lh x25, -0x35b(x10)
    ∷ (0x4d2b2083, Load Lw 1 22 0x4d2)  -- lw x1, 0x4d2(x22)
    ∷ (0xb2e1c403, Load Lbu 8 3 (2 ^ 64 - 0x4d2))  -- lbu x8, -0x4d2(x3)
    ∷ (0x6a985783, Load Lhu 15 16 0x6a9)  -- lhu x15, 0x6a9(x16)
    ∷ (0xd1bb0ca3, Store Sb 22 27 (2 ^ 64 - 0x2e7))  -- sb x27, -0x2e7(x22)
    ∷ (0x2e8e93a3, Store Sh 29 8 0x2e7)  -- sh x8, 0x2e7(x29)
    ∷ (0x9542aba3, Store Sw 5 20 (2 ^ 64 - 0x6a9))  -- sw x20, -0x6a9(x5)
    ∷ (0x35b08613, Immediate Addi 12 1 0x35b)  -- addi x12, x1, 0x35b
    ∷ (0xca56a993, Immediate Slti 19 13 (2 ^ 64 - 0x35b))  -- slti x19, x13, -0x35b
    ∷ (0x4d2cbd13, Immediate Sltiu 26 25 0x4d2)  -- sltiu x26, x25, 0x4d2
    ∷ (0xb2e34113, Immediate Xori 2 6 (2 ^ 64 - 0x4d2))  -- xori x2, x6, -0x4d2
    ∷ (0x6a996493, Immediate Ori 9 18 0x6a9)  -- ori x9, x18, 0x6a9
    ∷ (0x957f7813, Immediate Andi 16 30 (2 ^ 64 - 0x6a9))  -- andi x16, x30, -0x6a9
    ∷ (0x02a59b93, Shift Slli 23 11 42)  -- slli x23, x11, 42
    ∷ (0x015bdf13, Shift Srli 30 23 21)  -- srli x30, x23, 21
    ∷ (0x43325313, Shift Srai 6 4 51)  -- srai x6, x4, 51
    ∷ (0x00e806b3, Register Add 13 16 14)  -- add x13, x16, x14
    ∷ (0x401e0a33, Register Sub 20 28 1)  -- sub x20, x28, x1
    ∷ (0x01349db3, Register Sll 27 9 19)  -- sll x27, x9, x19
    ∷ (0x006aa1b3, Register Slt 3 21 6)  -- slt x3, x21, x6
    ∷ (0x01813533, Register Sltu 10 2 24)  -- sltu x10, x2, x24
    ∷ (0x00b748b3, Register Xor 17 14 11)  -- xor x17, x14, x11
    ∷ (0x01dd5c33, Register Srl 24 26 29)  -- srl x24, x26, x29
    ∷ (0x4103dfb3, Register Sra 31 7 16)  -- sra x31, x7, x16
    ∷ (0x0039e3b3, Register Or 7 19 3)  -- or x7, x19, x3
    ∷ (0x015ff733, Register And 14 31 21)  -- and x14, x31, x21
    ∷ (0x0960000f, Fence 0 9 6 0 0)  -- fence iw, or
    ∷ (0x00000073, System Ecall)  -- ecall
    ∷ (0x00100073, System Ebreak)  -- ebreak
    -- "RV64I Base Instruction Set"
    ∷ (0xca566a83, Load Lwu 21 12 (2 ^ 64 - 0x35b))  -- lwu x21, -0x35b(x12)
    ∷ (0x2e7c3e03, Load Ld 28 24 0x2e7)  -- ld x28, 0x2e7(x24)
    ∷ (0x94523ba3, Store Sd 4 5 (2 ^ 64 - 0x6a9))  -- sd x5, -0x6a9(x4)
    ∷ (0xb2e8859b, Addiw 11 17 (2 ^ 64 - 0x4d2))  -- addiw x11, x17, -0x4d2
    ∷ (0x015e991b, ShiftWord Slliw 18 29 21)  -- slliw x18, x29, 21
    ∷ (0x00a55c9b, ShiftWord Srliw 25 10 10)  -- srliw x25, x10, 10
    ∷ (0x413b509b, ShiftWord Sraiw 1 22 19)  -- sraiw x1, x22, 19
    ∷ (0x00a1843b, RegisterWord Addw 8 3 10)  -- addw x8, x3, x10
    ∷ (0x41c807bb, RegisterWord Subw 15 16 28)  -- subw x15, x16, x28
    ∷ (0x00fd9b3b, RegisterWord Sllw 22 27 15)  -- sllw x22, x27, x15
    ∷ (0x00245ebb, RegisterWord Srlw 29 8 2)  -- srlw x29, x8, x2
    ∷ (0x415a52bb, RegisterWord Sraw 5 20 21)  -- sraw x5, x20, x21
    -- "RV32M Standard Extension" and "RV64M Standard Extension"
    ∷ (0x02e806b3, Register Mul 13 16 14)  -- mul x13, x16, x14
    ∷ (0x021e1a33, Register Mulh 20 28 1)  -- mulh x20, x28, x1
    ∷ (0x0334adb3, Register Mulhsu 27 9 19)  -- mulhsu x27, x9, x19
    ∷ (0x026ab1b3, Register Mulhu 3 21 6)  -- mulhu x3, x21, x6
    ∷ (0x03814533, Register Div 10 2 24)  -- div x10, x2, x24
    ∷ (0x02b758b3, Register Divu 17 14 11)  -- divu x17, x14, x11
    ∷ (0x03dd6c33, Register Rem 24 26 29)  -- rem x24, x26, x29
    ∷ (0x0303ffb3, Register Remu 31 7 16)  -- remu x31, x7, x16
    ∷ (0x023983bb, RegisterWord Mulw 7 19 3)  -- mulw x7, x19, x3
    ∷ (0x035fc73b, RegisterWord Divw 14 31 21)  -- divw x14, x31, x21
    ∷ (0x02a1d43b, RegisterWord Divuw 8 3 10)  -- divuw x8, x3, x10
    ∷ (0x03c867bb, RegisterWord Remw 15 16 28)  -- remw x15, x16, x28
    ∷ (0x02fdfb3b, RegisterWord Remuw 22 27 15)  -- remuw x22, x27, x15
    -- h-loads and h-stores: what the assembler takes for a register is 16 times a bit of the choice, and the register
    ∷ (0x35b0860b, HLoad Lb 1 12 1 0x35b)  -- .insn i 0x0b, 0, x12, x1, 0x35b
    ∷ (0xca56998b, HLoad Lh 4 3 13 (2 ^ 64 - 0x35b))  -- .insn i 0x0b, 1, x19, x13, -0x35b
    ∷ (0x4d2cad0b, HLoad Lw 6 10 9 0x4d2)  -- .insn i 0x0b, 2, x26, x25, 0x4d2
    ∷ (0xb2e3310b, HLoad Ld 1 2 6 (2 ^ 64 - 0x4d2))  -- .insn i 0x0b, 3, x2, x6, -0x4d2
    ∷ (0x6a99448b, HLoad Lbu 5 9 2 0x6a9)  -- .insn i 0x0b, 4, x9, x18, 0x6a9
    ∷ (0x957f580b, HLoad Lhu 6 0 14 (2 ^ 64 - 0x6a9))  -- .insn i 0x0b, 5, x16, x30, -0x6a9
    ∷ (0x2e75eb8b, HLoad Lwu 4 7 11 0x2e7)  -- .insn i 0x0b, 6, x23, x11, 0x2e7
    ∷ (0xd17f0cab, HStore Sb 6 14 7 (2 ^ 64 - 0x2e7))  -- .insn s 0x2b, 0, x23, -0x2e7(x30)
    ∷ (0x2e4313ab, HStore Sh 1 6 4 0x2e7)  -- .insn s 0x2b, 1, x4, 0x2e7(x6)
    ∷ (0x9506abab, HStore Sw 4 13 0 (2 ^ 64 - 0x6a9))  -- .insn s 0x2b, 2, x16, -0x6a9(x13)
    ∷ (0x6bca34ab, HStore Sd 6 4 12 0x6a9)  -- .insn s 0x2b, 3, x28, 0x6a9(x20)
    -- .. at the ends of both, every region; these words are of `llvm-mc -triple=riscv64` (LLVM 14.0.6)
    ∷ (0x7ff7d78b, HLoad Lhu 1 15 15 0x7ff)  -- .insn i 0x0b, 5, x15, x15, 0x7ff
    ∷ (0x5557b80b, HLoad Ld 4 0 15 0x555)  -- .insn i 0x0b, 3, x16, x15, 0x555
    ∷ (0xaaa8478b, HLoad Lbu 5 15 0 (2 ^ 64 - 0x556))  -- .insn i 0x0b, 4, x15, x16, -0x556
    ∷ (0xffffef8b, HLoad Lwu 6 15 15 (2 ^ 64 - 1))  -- .insn i 0x0b, 6, x31, x31, -1
    ∷ (0x54f7baab, HStore Sd 1 15 15 0x555)  -- .insn s 0x2b, 3, x15, 0x555(x15)
    ∷ (0x81f7a02b, HStore Sw 4 15 15 (2 ^ 64 - 0x800))  -- .insn s 0x2b, 2, x31, -0x800(x15)
    ∷ (0x7ef81fab, HStore Sh 5 0 15 0x7ff)  -- .insn s 0x2b, 1, x15, 0x7ff(x16)
    ∷ (0xd07e8cab, HStore Sb 5 13 7 (2 ^ 64 - 0x2e7))  -- .insn s 0x2b, 0, x7, -0x2e7(x29)
    ∷ (0xab08352b, HStore Sd 6 0 0 (2 ^ 64 - 0x556))  -- .insn s 0x2b, 3, x16, -0x556(x16)
    -- opcode 5b
    ∷ (0x0004805b, Hfi Enter 0 9 0)  -- .insn r 0x5b, 0, 0, x0, x9, x0
    ∷ (0x026a805b, Hfi EnterJump 0 21 6)  -- .insn r 0x5b, 0, 1, x0, x21, x6
    ∷ (0x0400005b, Hfi Exit 0 0 0)  -- .insn r 0x5b, 0, 2, x0, x0, x0 (C)
    ∷ (0x0607005b, Hfi SelectRegion 0 14 0)  -- .insn r 0x5b, 0, 3, x0, x14, x0
    ∷ (0x080d005b, Hfi SetBase 0 26 0)  -- .insn r 0x5b, 0, 4, x0, x26, x0
    ∷ (0x0a000fdb, Hfi GetBase 31 0 0)  -- .insn r 0x5b, 0, 5, x31, x0, x0
    ∷ (0x0c09805b, Hfi SetBound 0 19 0)  -- .insn r 0x5b, 0, 6, x0, x19, x0
    ∷ (0x0e00075b, Hfi GetBound 14 0 0)  -- .insn r 0x5b, 0, 7, x14, x0, x0
    ∷ (0x1006005b, Hfi SetPermission 0 12 0)  -- .insn r 0x5b, 0, 8, x0, x12, x0
    ∷ (0x12000e5b, Hfi GetPermission 28 0 0)  -- .insn r 0x5b, 0, 9, x28, x0, x0
    ∷ (0x1402805b, Hfi SetHandler 0 5 0)  -- .insn r 0x5b, 0, 10, x0, x5, x0
    ∷ (0x160005db, Hfi GetHandler 11 0 0)  -- .insn r 0x5b, 0, 11, x11, x0, x0
    ∷ (0x1800005b, Hfi ResetRegions 0 0 0)  -- .insn r 0x5b, 0, 12, x0, x0, x0
    -- branch offsets: each bit alone, alternating bits, the extremes
    ∷ (0x01550163, Branch Beq 10 21 2)  -- beq x10, x21, .+2
    ∷ (0x01550263, Branch Beq 10 21 4)  -- beq x10, x21, .+4
    ∷ (0x01550463, Branch Beq 10 21 8)  -- beq x10, x21, .+8
    ∷ (0x01550863, Branch Beq 10 21 16)  -- beq x10, x21, .+0x10
    ∷ (0x03550063, Branch Beq 10 21 32)  -- beq x10, x21, .+0x20
    ∷ (0x05550063, Branch Beq 10 21 64)  -- beq x10, x21, .+0x40
    ∷ (0x09550063, Branch Beq 10 21 0x80)  -- beq x10, x21, .+0x80
    ∷ (0x11550063, Branch Beq 10 21 0x100)  -- beq x10, x21, .+0x100
    ∷ (0x21550063, Branch Beq 10 21 0x200)  -- beq x10, x21, .+0x200
    ∷ (0x41550063, Branch Beq 10 21 0x400)  -- beq x10, x21, .+0x400
    ∷ (0x015500e3, Branch Beq 10 21 0x800)  -- beq x10, x21, .+0x800
    ∷ (0x81550063, Branch Beq 10 21 (2 ^ 64 - 0x1000))  -- beq x10, x21, .-0x1000
    ∷ (0x55550a63, Branch Beq 10 21 0x554)  -- beq x10, x21, .+0x554
    ∷ (0x2b5505e3, Branch Beq 10 21 0xaaa)  -- beq x10, x21, .+0xaaa
    ∷ (0xab5505e3, Branch Beq 10 21 (2 ^ 64 - 0x556))  -- beq x10, x21, .-0x556
    ∷ (0xd5550b63, Branch Beq 10 21 (2 ^ 64 - 0xaaa))  -- beq x10, x21, .-0xaaa
    ∷ (0x7f550fe3, Branch Beq 10 21 0xffe)  -- beq x10, x21, .+0xffe
    ∷ (0xff550fe3, Branch Beq 10 21 (2 ^ 64 - 2))  -- beq x10, x21, .-2
    -- jump offsets, the same
    ∷ (0x0020056f, Jal 10 2)  -- jal x10, .+2
    ∷ (0x0040056f, Jal 10 4)  -- jal x10, .+4
    ∷ (0x0080056f, Jal 10 8)  -- jal x10, .+8
    ∷ (0x0100056f, Jal 10 16)  -- jal x10, .+0x10
    ∷ (0x0200056f, Jal 10 32)  -- jal x10, .+0x20
    ∷ (0x0400056f, Jal 10 64)  -- jal x10, .+0x40
    ∷ (0x0800056f, Jal 10 0x80)  -- jal x10, .+0x80
    ∷ (0x1000056f, Jal 10 0x100)  -- jal x10, .+0x100
    ∷ (0x2000056f, Jal 10 0x200)  -- jal x10, .+0x200
    ∷ (0x4000056f, Jal 10 0x400)  -- jal x10, .+0x400
    ∷ (0x0010056f, Jal 10 0x800)  -- jal x10, .+0x800
    ∷ (0x0000156f, Jal 10 0x1000)  -- jal x10, .+0x1000
    ∷ (0x0000256f, Jal 10 0x2000)  -- jal x10, .+0x2000
    ∷ (0x0000456f, Jal 10 0x4000)  -- jal x10, .+0x4000
    ∷ (0x0000856f, Jal 10 0x8000)  -- jal x10, .+0x8000
    ∷ (0x0001056f, Jal 10 0x10000)  -- jal x10, .+0x10000
    ∷ (0x0002056f, Jal 10 0x20000)  -- jal x10, .+0x20000
    ∷ (0x0004056f, Jal 10 0x40000)  -- jal x10, .+0x40000
    ∷ (0x0008056f, Jal 10 0x80000)  -- jal x10, .+0x80000
    ∷ (0x8000056f, Jal 10 (2 ^ 64 - 0x100000))  -- jal x10, .-0x100000
    ∷ (0x5545556f, Jal 10 0x55554)  -- jal x10, .+0x55554
    ∷ (0x2abaa56f, Jal 10 0xaaaaa)  -- jal x10, .+0xaaaaa
    ∷ (0xaabaa56f, Jal 10 (2 ^ 64 - 0x55556))  -- jal x10, .-0x55556
    ∷ (0xd565556f, Jal 10 (2 ^ 64 - 0xaaaaa))  -- jal x10, .-0xaaaaa
    ∷ (0x7ffff56f, Jal 10 0xffffe)  -- jal x10, .+0xffffe
    ∷ (0xfffff56f, Jal 10 (2 ^ 64 - 2))  -- jal x10, .-2
    -- store offsets
    ∷ (0x55553aa3, Store Sd 10 21 0x555)  -- sd x21, 0x555(x10)
    ∷ (0xab553523, Store Sd 10 21 (2 ^ 64 - 0x556))  -- sd x21, -0x556(x10)
    ∷ (0x7f553fa3, Store Sd 10 21 0x7ff)  -- sd x21, 0x7ff(x10)
    ∷ (0x81553023, Store Sd 10 21 (2 ^ 64 - 0x800))  -- sd x21, -0x800(x10)
    -- upper immediates
    ∷ (0x55555537, Upper Lui 10 0x55555000)  -- lui x10, 0x55555
    ∷ (0xaaaaa537, Upper Lui 10 (2 ^ 64 - 0x55556000))  -- lui x10, 0xaaaaa
    ∷ (0x7ffff537, Upper Lui 10 0x7ffff000)  -- lui x10, 0x7ffff
    ∷ (0x80000537, Upper Lui 10 (2 ^ 64 - 0x80000000))  -- lui x10, 0x80000
    -- words in common use, and a FENCE with spare fields
    ∷ (0xfff50513, Immediate Addi 10 10 (2 ^ 64 - 1))  -- addi x10, x10, -1
    ∷ (0xfe051ee3, Branch Bne 10 0 (2 ^ 64 - 4))  -- bne x10, x0, .-4
    ∷ (0xffdff06f, Jal 0 (2 ^ 64 - 4))  -- jal x0, .-4
    ∷ (0x00008067, Jalr 0 1 0)  -- ret
    ∷ (0xff813503, Load Ld 10 2 (2 ^ 64 - 8))  -- ld x10, -8(x2)
    ∷ (0xfea13c23, Store Sd 2 10 (2 ^ 64 - 8))  -- sd x10, -8(x2)
    ∷ (0x43f35293, Shift Srai 5 6 63)  -- srai x5, x6, 63
    ∷ (0x0005051b, Addiw 10 10 0)  -- sext.w x10, x10
    ∷ (0x40208033, Register Sub 0 1 2)  -- sub x0, x1, x2
    ∷ (0x8330000f, Fence 8 3 3 0 0)  -- fence.tso
    ∷ (0x0100000f, Fence 0 1 0 0 0)  -- .insn i 0x0f, 0, x0, x0, 0x10 (pause)
    ∷ (0xa6350a8f, Fence 10 6 3 10 21)  -- .insn i 0x0f, 0, x21, x10, -0x59d
    ∷ (0xfff0350b, HLoad Ld 1 10 0 (2 ^ 64 - 1))  -- .insn i 0x0b, 3, x10, x0, -1
    ∷ []

-- each word is decoded to the instruction beside it
pub decoded : map (λ r. decode_word r.0) rows ≡ map (λ r. Some r.1) rows
unfolding decode_word sext
decoded = refl

-- each instruction is encoded to the word beside it
pub encoded : map (λ r. encode_word r.1) rows ≡ map (λ r. Some r.0) rows
unfolding encode_word sext
encoded = refl

-- ---- words that are illegal, with the reason

abbrev pub illegal : List ℕ
illegal =
    -- neighbours of legal words
    0x00051ae7  -- jalr has funct3 0 only
    ∷ 0x01552063  -- no branch has funct3 2
    ∷ 0x01553063  -- nor 3
    ∷ 0x00057a83  -- no load has funct3 7
    ∷ 0x01554023  -- no store has funct3 4
    ∷ 0x40051a93  -- slli and a bit above the amount
    ∷ 0x80055a93  -- srli, the same
    ∷ 0x00052a9b  -- no slliw, srliw or sraiw has funct3 2
    ∷ 0x0200909b  -- slliw by 32
    ∷ 0x40551ab3  -- sll with the funct7 of sra
    ∷ 0x40554ab3  -- xor, the same
    ∷ 0x42550ab3  -- mul with the bit of sub
    ∷ 0x04550ab3  -- no operation has funct7 2
    ∷ 0x00552abb  -- no operation on words has funct3 2
    ∷ 0x02551abb  -- mulh has no word form
    ∷ 0x02552abb  -- nor mulhsu
    ∷ 0x02553abb  -- nor mulhu
    ∷ 0x0000100f  -- fence.i
    ∷ 0x30001073  -- csrw mstatus, x0
    ∷ 0x00200073  -- no system call has funct12 2
    ∷ 0x000000f3  -- ecall with rd
    ∷ 0x00108073  -- ebreak with rs1
    ∷ 0x0000700b  -- no h-load has funct3 7
    ∷ 0x0000402b  -- no h-store has funct3 4
    ∷ 0x0000105b  -- opcode 5b has funct3 0 only
    ∷ 0x1a00005b  -- no row has funct7 13
    ∷ 0x00000000
    ∷ 0xffffffff
    -- opcode 5b: each field that a row does not name
    ∷ 0x0000015b  -- enter: rd
    ∷ 0x0140005b  -- enter: rs2
    ∷ 0x0200015b  -- enter with jump: rd
    ∷ 0x0400015b  -- exit: rd (C)
    ∷ 0x0404805b  -- exit: rs1
    ∷ 0x0540005b  -- exit: rs2
    ∷ 0x0600015b  -- select region: rd
    ∷ 0x0740005b  -- select region: rs2
    ∷ 0x0800015b  -- set base: rd
    ∷ 0x0940005b  -- set base: rs2
    ∷ 0x0a04805b  -- get base: rs1
    ∷ 0x0b40005b  -- get base: rs2
    ∷ 0x0c00015b  -- set bound: rd
    ∷ 0x0d40005b  -- set bound: rs2
    ∷ 0x0e04805b  -- get bound: rs1
    ∷ 0x0f40005b  -- get bound: rs2
    ∷ 0x1000015b  -- set permission: rd
    ∷ 0x1140005b  -- set permission: rs2
    ∷ 0x1204805b  -- get permission: rs1
    ∷ 0x1340005b  -- get permission: rs2
    ∷ 0x1400015b  -- set handler: rd
    ∷ 0x1540005b  -- set handler: rs2
    ∷ 0x1604805b  -- get handler: rs1
    ∷ 0x1740005b  -- get handler: rs2
    ∷ 0x1800015b  -- reset regions: rd
    ∷ 0x1804805b  -- reset regions: rs1
    ∷ 0x1940005b  -- reset regions: rs2
    ∷ []

pub none_decoded : map decode_word illegal ≡ map (λ w. None) illegal
unfolding decode_word sext
none_decoded = refl

-- ---- every funct7 and funct3 of the opcodes of register operations, as one number: these are legal, and no others

abbrev kept : Option Instruction → ℕ → List ℕ → List ℕ
kept (Some i) n ns = n ∷ ns
kept None n ns = ns

abbrev legal_codes : ℕ → ℕ → List ℕ → List ℕ
legal_codes opcode zero ns = ns
legal_codes opcode (suc n) ns = legal_codes opcode n (kept (decode_word (n / 8 * 2 ^ 25 + n % 8 * 2 ^ 12 + opcode)) n ns)

pub register_codes : legal_codes 0x33 1024 [] ≡ 0 ∷ 1 ∷ 2 ∷ 3 ∷ 4 ∷ 5 ∷ 6 ∷ 7 ∷ 8 ∷ 9 ∷ 10 ∷ 11 ∷ 12 ∷ 13 ∷ 14 ∷ 15 ∷ 0x100 ∷ 0x105 ∷ []
unfolding decode_word sext
register_codes = refl

pub register_word_codes : legal_codes 0x3b 1024 [] ≡ 0 ∷ 1 ∷ 5 ∷ 8 ∷ 12 ∷ 13 ∷ 14 ∷ 15 ∷ 0x100 ∷ 0x105 ∷ []
unfolding decode_word sext
register_word_codes = refl

-- ---- instructions that no word has

abbrev pub refused : List Instruction
refused =
    Branch Beq 0 0 3  -- an odd offset
    ∷ Branch Beq 0 0 4096  -- one bit too far
    ∷ Jal 0 (2 ^ 20)
    ∷ Jal 0 1
    ∷ Store Sb 0 0 (2 ^ 64 - 2049)
    ∷ HLoad Lb 1 0 0 2048
    ∷ HStore Sb 1 0 32 0
    ∷ HLoad Lb 0 0 0 0  -- regions that no h-word chooses
    ∷ HLoad Lb 2 0 0 0
    ∷ HLoad Lb 3 0 0 0
    ∷ HLoad Lb 7 0 0 0
    ∷ HStore Sb 0 0 0 0
    ∷ HStore Sb 2 0 0 0
    ∷ HStore Sb 3 0 0 0
    ∷ HStore Sb 7 0 0 0
    ∷ HLoad Lb 1 16 0 0  -- a register that an h-word cannot name
    ∷ HLoad Lb 6 0 16 0
    ∷ HStore Sb 1 16 0 0
    ∷ HStore Sb 6 0 16 0
    ∷ Fence 16 0 0 0 0
    ∷ Fence 0 0 16 0 0
    ∷ ShiftWord Slliw 0 0 32
    ∷ Immediate Addi 0 0 2048
    ∷ Immediate Addi 32 0 0
    ∷ Shift Slli 0 0 64
    ∷ Upper Lui 0 1
    ∷ Hfi GetBase 1 1 0  -- the row does not name rs1
    ∷ []

pub none_encoded : map encode_word refused ≡ map (λ i. None) refused
unfolding encode_word sext
none_encoded = refl
